-- Offer.

-- What a reader has to believe
pub mod Offer
pub mod OfferReplies
-- What is proved
pub mod OfferCases
pub mod OfferReplyLaws
-- What its functions' contracts cite
pub mod OfferCode
pub mod Unaccepted
