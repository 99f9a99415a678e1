pub mod After
pub mod Made
