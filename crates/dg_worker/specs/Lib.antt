pub mod Workers
