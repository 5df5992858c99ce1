-- Reading the report program's input. Fields, Input and RowEleven state document 01. RequestReading is the contract of `read_request`, Parsing that of the
-- private method that reads one field.
pub mod Fields
pub mod Input
pub mod RowEleven
pub mod RequestReading
pub mod Parsing
