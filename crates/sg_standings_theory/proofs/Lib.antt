pub mod FreeOver
pub mod OneList
