pub mod HelloTexts
pub mod MessageTexts
pub mod JoinTexts
pub use HelloTexts.{hello_text}
pub use MessageTexts.{head_text, message_text, view_text, sized_text}
pub use JoinTexts.{join_text, text_length}
