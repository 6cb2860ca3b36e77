-- A window holds exactly the kept cuts, each line true exactly by PaCTL; a step and a close keep it so.

-- What a reader has to believe
pub mod FrontierOf
-- What a window holds, and the theorems
pub mod Represents
pub mod StartTheorem
pub mod StepTheorem
pub mod CloseTheorem
pub mod Unique
pub mod Verdict
pub mod KnownCuts
-- What leads to them
pub mod KeptTest
pub mod OrderCuts
pub mod MergeLaws
pub mod FrontierLaws
pub mod FoundLaid
pub mod StoredCuts
pub mod GatheredBits
pub mod JudgingNew
