pub mod Fields
pub mod Standing
pub mod Closing
pub mod Texts
pub use Fields.{rule_of, Field, fixed, vector, sized, step}
pub use Standing.{field_bytes, Obeys, least, view_of, NoneAt, TooFew, Lacks}
pub use Closing.{NoneCloses, close_at}
pub use Texts.{allowed, field_text}
pub use declared.RuleName.{RuleName}
pub use declared.RuleName.TheVariants.{SessionId, Ciphers, Methods, Fragment, Plain}
