pub mod Words
pub mod Refusals
pub mod Answers
pub mod Names
pub use Rattle.std.specs.Prelude.{◌+◌, ◌-◌, ◌*◌, ◌/◌, ◌%◌, ◌^◌, ◌<◌, ◌≤◌, ◌≡◌, ◌∷◌, ◌++◌, ◌||◌, ◌&&◌, ◌⊎◌}
pub use Words.{ℕ, zero, suc, Option, none, some, List, [], map, foldl, foldr, Bool, true, false, length, take, drop, get_or, replicate, leb, eqb, ltb, MayBe, Some, None, is_some, Result, Ok, Err, IfOk}
pub use Refusals.{number_of, NumbersApart, OneOf, refusal, unplaced, inside}
pub use Answers.{Answer, accepted, refused, as_answer, number_in, values_in, OneResult, then, giving, or_else, within}
pub use declared.{Reason.Reason, Refusal.Refusal}
pub use declared.Reason.TheVariants.{Incomplete, Verify, Complete, NoSuch, Switch, LengthValue, TooLarge, BadLength, NotYetImplemented, Tag, NoRoom}
