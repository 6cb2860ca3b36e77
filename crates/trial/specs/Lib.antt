-- Take's trial of the pending events.

-- What a reader has to believe
pub mod Trial
-- What it comes to
pub mod TurnLaws
pub mod TrialLaws
-- What its functions' contracts cite, and the step's setting by the code's parameters
pub mod TrialCode
pub mod SettingLaws
