pub mod FractionLaws
pub mod MiddleLaws
pub mod PaymentLaws
pub mod Accuracy
pub mod Examples
