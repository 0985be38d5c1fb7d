pub mod ExplanationReport
pub mod inner
