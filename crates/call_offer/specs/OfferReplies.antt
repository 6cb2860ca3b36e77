-- How a caller tells an offer's answers apart by its reply word, on all bytes (02 [1]; proved in OfferReplyLaws).
use Rattle.std.specs.Prelude.{ℕ, ◌<◌, ◌/◌, ◌%◌, ◌≡◌, List, ◌↔◌}
use Rattle.answers.specs.Answer.{turned_back, held, again, reply_word}
use Rattle.call_offer.specs.Offer.{offer_call}

pub record OfferTold (w mask : ℕ) (clock labels s : List ℕ) : Type 0 where
  -- accepted exactly if the word's value is above 0: it is the number of pending events
  pub accepted_exactly : (n : ℕ) → ((offer_call w mask clock labels s).answer ≡ held n)
      ↔ ((0 < n) × (reply_word (offer_call w mask clock labels s).answer / 65536 % 65536 ≡ n))
  -- turned back exactly if its number is not 0
  pub turned_exactly : (n : ℕ) → ((offer_call w mask clock labels s).answer ≡ turned_back n 0)
      ↔ ((0 < n) × (reply_word (offer_call w mask clock labels s).answer % 256 ≡ n))
  -- "again" exactly if it is 256
  pub again_exactly : ((offer_call w mask clock labels s).answer ≡ again)
      ↔ (reply_word (offer_call w mask clock labels s).answer ≡ 256)

abbrev pub OfferTells : Type 0
OfferTells = (w mask : ℕ) (clock labels s : List ℕ) → OfferTold w mask clock labels s
