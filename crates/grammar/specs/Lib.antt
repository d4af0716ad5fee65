pub mod Grammars
pub mod Splits
pub mod Reading
pub mod Forms
pub mod Demand3
pub mod Strict
pub mod Closed
pub mod Hellos
pub use Grammars.{How, as_view, as_opt, as_number, gather}
pub use Hellos.{version, random, session_id_of, cipher, extensions, client_hello, client_to_fill, server_hello, server_hello_draft18}
pub use Splits.{join, Pieces, Split, handed_of, FirstLacks}
pub use Forms.{Out, named, all_named_of, Form, value_of, reading, pieces, Listing, if_listed, by_version}
pub use Demand3.{BySplit, ByVersion}
pub use Strict.{ToFill, inexact, strictly, ByExactSplit}
pub use Closed.{ClosedForm, closed, ByClosedSplit}
