pub mod Token
pub mod Reading
pub mod Printed
pub mod Grammar
pub mod Same
