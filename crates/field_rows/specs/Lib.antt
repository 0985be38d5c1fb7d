pub mod FieldRows
