pub mod HelloMessages
