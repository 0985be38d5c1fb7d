pub mod SheetBytes
pub mod ContentRow
pub mod inner
