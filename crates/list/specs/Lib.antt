pub mod Items
pub mod Listing
pub mod Stopping
pub mod Tagged
pub mod Stepping
pub mod AnySteps
pub use Items.{go_on_of, items_from, place, or_no_such, item_from, items, NoneMore, number_place}
pub use Listing.{bytes_handed, ByItems}
pub use Stopping.{end_of, left_over_of, Stops}
