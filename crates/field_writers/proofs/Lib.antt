pub mod FieldLaws
pub mod Records
