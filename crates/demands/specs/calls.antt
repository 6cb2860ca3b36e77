-- What carries a watch from call to call.
pub mod ValidRule
pub mod StoredFits
pub mod KeptCutsLaws
pub mod ListPlaces
pub mod WatchingLaws
pub mod PendingOrder
pub mod OpenLaws
pub mod OfferLaws
pub mod CloseLaws
pub mod MoveLaws
pub mod TakeLaws
pub mod TakeLedger
pub mod TakeLowers
pub mod AfterCall
pub mod WindowRooms
pub mod OfferByLedger
pub mod Tests
