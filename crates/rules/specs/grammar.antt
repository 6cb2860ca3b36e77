-- Faults apart from any reader, and the theorem that the reader answers the first.
pub mod PlainBytes
pub mod FirstBytes
pub mod ScanLaws
pub mod OpenForms
pub mod PartialWords
pub mod FaultLaws
pub mod LimitFaults
pub mod FormFaults
pub mod GrammarTheorem
