pub mod FieldBytes
