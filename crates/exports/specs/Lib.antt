-- The calls for C and Rust programs. Exported has the contract of each call; Demands says in plain comparisons what documents 01 and 02 require of them.
pub mod Exported
pub mod Demands
