-- The rules of the contract side. Document 02, order 9: "19 marks: four files, four keys, five foreign keys (OBS subcontractor, both
-- parents, both control account links), then levels and parents for WBS and OBS, and the two leaf rules". These are the 15 behind
-- the files' own, in the order of their marks. Fields are named as document 000 names them, and looked up in its tables.
use Rattle.std.specs.Prelude.{ℕ}
use Prim.Native.String.{String}
use mathlib.Core.List.{List, [], ◌∷◌, map, flatten}
use Rattle.json_bytes.specs.Ascii.{codes}
use Rattle.table_name.specs.Name.{index_of}
use Rattle.contract_fields.specs.Fields.{contract_fields_of}
use Rattle.rule_shape.specs.declared.Rule.{Rule}
use Rattle.rule_shape.specs.declared.Rule.TheVariants.{KeyOf, TreeLevels, TreeParent, TargetIn, LeafIn}
use Rattle.rule_shape.specs.Rule.{key, condition, row_of}

-- a field by its name, counted within its table; their count for a name that is none
unfoldable pub contract_field : ℕ → String → ℕ
contract_field file name = index_of (codes name) (contract_fields_of file)

-- ---- Shapes, with their fields by name
-- "Primary Key", one ID
unfoldable pub primary_key : ℕ → String → Rule
primary_key file a = KeyOf file (key (contract_field file a) 1 0 0 0 0)

-- "Foreign Keys"
unfoldable pub foreign_key : ℕ → String → ℕ → String → Rule
foreign_key file a other b = TargetIn file (contract_field file a) (condition 0 0 0 0) other (contract_field other b)

unfoldable pub tree_levels : ℕ → String → Rule
tree_levels file level = TreeLevels file (contract_field file level)

unfoldable pub tree_parents : ℕ → String → String → String → Rule
tree_parents file parent level id = TreeParent file (contract_field file parent) (contract_field file level) (contract_field file id)

unfoldable pub leaf : ℕ → String → ℕ → String → String → Rule
leaf file a other id level = LeafIn file (contract_field file a) other (contract_field other id) (contract_field other level)

-- ---- Marks 4 to 18: files 0 Subcontractors, 1 WBS, 2 OBS, 3 ControlAccounts
unfoldable pub contract_rules : List Rule
contract_rules =
    -- 4–7, "four keys"
    primary_key 0 "ID" ∷
    primary_key 1 "ID" ∷
    primary_key 2 "ID" ∷
    primary_key 3 "ID" ∷
    -- 8–12, "five foreign keys (OBS subcontractor, both parents, both control account links)"
    foreign_key 2 "SubcontractorID" 0 "ID" ∷
    foreign_key 1 "ParentID" 1 "ID" ∷
    foreign_key 2 "ParentID" 2 "ID" ∷
    foreign_key 3 "WBSElementID" 1 "ID" ∷
    foreign_key 3 "OBSElementID" 2 "ID" ∷
    -- 13–16, "levels and parents for WBS and OBS"
    tree_levels 1 "Level" ∷
    tree_levels 2 "Level" ∷
    tree_parents 1 "ParentID" "Level" "ID" ∷
    tree_parents 2 "ParentID" "Level" "ID" ∷
    -- 17, 18, "the two leaf rules"
    leaf 3 "WBSElementID" 1 "ID" "Level" ∷
    leaf 3 "OBSElementID" 2 "ID" "Level" ∷
    []

-- the rows that the code walks
unfoldable pub contract_rule_rows : List ℕ
contract_rule_rows = flatten (map row_of contract_rules)
