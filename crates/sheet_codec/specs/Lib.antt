pub mod Encode
pub mod Limits
pub mod SheetOf
pub mod Field
pub mod Breaks
pub mod FieldsOf
pub mod Refused
