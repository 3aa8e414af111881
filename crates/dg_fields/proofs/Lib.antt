pub mod PutValues
pub mod ClearedValues
