-- Events, vector clocks, histories, consistent cuts.

-- What a reader has to believe
pub mod Event
pub mod History
pub mod Valid
pub mod Apart
pub mod Joined
pub mod Redundant
pub mod Counts
pub mod Refusal
pub mod Key
pub mod SameEvent
-- The same as tests that compute
pub mod Bounded
pub mod Tested
-- What the laws rest on
pub mod Causal
pub mod Kept
pub mod Bounds
pub mod JoinedRule
pub mod KeyOrder
-- What contracts of functions cite
pub mod RefusalCode
-- What is proved
pub mod cuts
pub mod validity
pub mod stored
