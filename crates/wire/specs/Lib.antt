pub mod Parts
pub mod Numbers
pub mod Puts
pub use Parts.{pick, if_some, lookup, lies_in, part_of, OptView, opt_part_of, part_at}
pub use Numbers.{bytes_in, Bytes, be, bytes_of, EachUndoes, number_at, number_text}
pub use Puts.{room, written}
pub use Rattle.refusal.specs.{Some, None}
pub use declared.{number.Number.Number, number.Width.Width, view.Part.Part, view.View.View}
pub use declared.number.Width.TheVariants.{One, Two, Three, Four}
