pub mod Baseline
