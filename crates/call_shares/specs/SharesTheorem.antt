-- A setting of shares, by what it comes to: what is true of every one.
use Rattle.std.specs.Prelude.{ℕ, ◌≡◌, refl, Bool, true, false, List, ◌≢◌, length}
use Rattle.std.proofs.Common.{sym, arith, lit<}
use Rattle.answers.specs.Result.{refused, gives}
use Rattle.answers.specs.ToldLaws.{not-both, refused_told, gives_told}
use Rattle.pool.specs.Pool.{pool_length, bad_pool_length}
use Rattle.pool.specs.PoolLaws.{length_right, length_wrong}
use Rattle.call_shares.specs.Shares.{bad_shares, set_shares}
use Rattle.call_shares.specs.SharesExact.{GoodShares, SharesExact, SharesAreExact}
use Rattle.call_shares.specs.SharesCases.{turned_back, done, length-turned, shares-turned, shares-set, Bad, shares_bad, shares_good, not-both_ways}
use Rattle.call_shares.specs.SharesLaws.{length_pool, shares-small, share_read, kept_read}

module _ (shares pool : List ℕ) where
  number_of : (a b : ℕ) → refused a ≡ refused b → a ≡ b
  number_of a b e = cc

  value_of : (a b : ℕ) → gives a ≡ gives b → a ≡ b
  value_of a b e = cc

  -- ---- What is true of each of the three ways

  of_wrong_length : length pool ≢ pool_length → SharesExact shares pool (turned_back pool 6)
  of_wrong_length other = record {
    wrong_length = (λ q. other, λ h. refl);
    wrong_shares = (λ q. absurd (omega (arith, number_of 6 49 q)), λ h. absurd (other h.0));
    set_exactly = λ n. (λ q. absurd (not-both 6 n q), λ h. absurd (other h.1));
    refused_leaves = λ n q. refl;
    shares_are = λ q. absurd (not-both 6 0 q);
    none_kept = λ q. absurd (not-both 6 0 q);
    same_length = refl;
    told = refused_told 6 (lit< tt) (lit< tt);
  }

  of_bad : length pool ≡ pool_length → Bad shares → SharesExact shares pool (turned_back pool 49)
  of_bad right bad = record {
    wrong_length = (λ q. absurd (omega (arith, number_of 49 6 q)), λ h. absurd (h right));
    wrong_shares = (λ q. (right, bad), λ h. refl);
    set_exactly = λ n. (λ q. absurd (not-both 49 n q), λ h. absurd (not-both_ways shares bad h.2));
    refused_leaves = λ n q. refl;
    shares_are = λ q. absurd (not-both 49 0 q);
    none_kept = λ q. absurd (not-both 49 0 q);
    same_length = refl;
    told = refused_told 49 (lit< tt) (lit< tt);
  }

  of_good : length pool ≡ pool_length → GoodShares shares → SharesExact shares pool (done shares)
  of_good right good =
      let small = shares-small shares good.within in
      record {
        wrong_length = (λ q. absurd (not-both 6 0 (sym q)), λ h. absurd (h right));
        wrong_shares = (λ q. absurd (not-both 49 0 (sym q)), λ h. absurd (not-both_ways shares h.1 good));
        set_exactly = λ n. (λ q. (sym (value_of 0 n q), right, good), λ h. rw h.0);
        refused_leaves = λ n q. absurd (not-both n 0 (sym q));
        shares_are = λ q i l. share_read shares small i;
        none_kept = λ q i l. kept_read shares small good.few i;
        same_length = rw right (length_pool shares good.few);
        told = gives_told 0 (lit< tt);
      }

-- ---- Theorem

pub shares_exact : SharesAreExact
shares_exact shares pool = go (bad_pool_length (length pool)) refl (bad_shares shares) refl
  where
    go : (b : Bool) → bad_pool_length (length pool) ≡ b → (c : Bool) → bad_shares shares ≡ c
        → SharesExact shares pool (set_shares shares pool)
    go true h c k = rw (length-turned shares pool h) (of_wrong_length shares pool (length_wrong (length pool) h))
    go false h true k =
        rw (shares-turned shares pool h k) (of_bad shares pool (length_right (length pool) h) (shares_bad shares k))
    go false h false k =
        rw (shares-set shares pool h k) (of_good shares pool (length_right (length pool) h) (shares_good shares k))
