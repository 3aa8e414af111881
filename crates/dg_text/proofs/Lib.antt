pub mod Utf8Tests
pub mod EscapedBytes
pub mod QuotedCharacters
pub mod LastMarks
