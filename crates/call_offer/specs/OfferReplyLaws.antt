-- An offer's answers by its reply word, case by case.
use Rattle.std.specs.Prelude.{ℕ, ◌+◌, ◌<◌, ◌/◌, ◌%◌, ◌≡◌, refl, ◌↔◌}
use Rattle.std.proofs.Common.{arith, leb-false}
use Rattle.records.specs.Record.{pending_count}
use Rattle.answers.specs.Answer.{Answer, turned_back, held, again, reply_word}
use Rattle.call_offer.specs.Offer.{Offered, offer_call}
use Rattle.call_offer.specs.OfferCases.{Case, offer_case, turned, repeats, accepted}
use Rattle.call_offer.specs.OfferReplies.{OfferTells}

-- What is told of an answer.
record Tells (a : Answer) : Type 0 where
  accepted_exactly : (n : ℕ) → (a ≡ held n) ↔ ((0 < n) × (reply_word a / 65536 % 65536 ≡ n))
  turned_exactly : (n : ℕ) → (a ≡ turned_back n 0) ↔ ((0 < n) × (reply_word a % 256 ≡ n))
  again_exactly : (a ≡ again) ↔ (reply_word a ≡ 256)

turned_tells : (n : ℕ) → 0 < n → n < 43 → Tells (turned_back n 0)
unfolding reply_word
turned_tells n some small = record {
  accepted_exactly = λ m.
      (λ x. let z : ◌≡◌ {A = ℕ} 0 1 = cc in absurd (omega arith), λ x. absurd (omega (arith, x.0, x.1)));
  turned_exactly = λ m.
      (λ x. let z : n ≡ m = cc in (omega arith, omega arith), λ x. let z : n ≡ m = omega (arith, x.1) in rw z);
  again_exactly = (λ x. let z : ◌≡◌ {A = ℕ} 0 1 = cc in absurd (omega arith), λ x. absurd (omega (arith, x)));
}

again_tells : Tells again
unfolding reply_word
again_tells = record {
  accepted_exactly = λ m.
      (λ x. let z : ◌≡◌ {A = ℕ} 0 1 = cc in absurd (omega arith), λ x. absurd (omega (arith, x.0, x.1)));
  turned_exactly = λ m.
      (λ x. let z : ◌≡◌ {A = ℕ} 0 1 = cc in absurd (omega arith), λ x. absurd (omega (arith, x.0, x.1)));
  again_exactly = (λ x. refl, λ x. refl);
}

held_tells : (n : ℕ) → 0 < n → n < 33 → Tells (held n)
unfolding reply_word
held_tells n some small = record {
  accepted_exactly = λ m.
      (λ x. let z : n ≡ m = cc in (omega arith, omega arith), λ x. let z : n ≡ m = omega (arith, x.1) in rw z);
  turned_exactly = λ m.
      (λ x. let z : ◌≡◌ {A = ℕ} 0 1 = cc in absurd (omega arith), λ x. absurd (omega (arith, x.0, x.1)));
  again_exactly = (λ x. let z : ◌≡◌ {A = ℕ} 0 1 = cc in absurd (omega arith), λ x. absurd (omega (arith, x)));
}

pub replies_tell : OfferTells
replies_tell w mask clock labels s =
    let t = go (offer_call w mask clock labels s) (offer_case w mask clock labels s) in
    record {
      accepted_exactly = t.accepted_exactly;
      turned_exactly = t.turned_exactly;
      again_exactly = t.again_exactly;
    }
  where
    go : (o : Offered) → Case w mask clock labels s o → Tells o.answer
    go o (turned n some small other q) = rw q (turned_tells n some small)
    go o (repeats h7 h q) = rw q again_tells
    go o (accepted h7 h8 h9 h42 h31 h32 h33 q) =
        rw q (held_tells (pending_count s + 1) (omega arith) (omega (arith, leb-false 32 (pending_count s) h33)))
