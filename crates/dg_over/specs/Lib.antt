-- In reading order.
pub mod Met
pub mod Follow
pub mod Makes
