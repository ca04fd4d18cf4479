-- The effect of each event on the shares.
use Rattle.std.proofs.Common.{◌≡◌, ◌≢◌, ℕ, ◌<◌, List, [], ◌∷◌, ◌++◌, set, refl, ◌∙◌}
use Rattle.std.proofs.Common.{arith}
use Rattle.mark_core.proofs.Words.{StandsAt, Account, part, no_share, after_split, after_join, IsShared, HasNothing}
use Rattle.mark_core.proofs.Words.{shares, whole}
use Rattle.mark_core.proofs.Places.{set_all, push_all, set_else}
use Rattle.mark_core.proofs.Sums.{sum_of-set, sum_of-append}

pub nothing_no_share : HasNothing no_share
nothing_no_share = record { held = refl; charge = refl; finished = refl; open_push = refl }

-- an account without a share has nothing
abbrev HasNoMore : Account → Type 0
HasNoMore a = a.share ≡ 0 → HasNothing a

module _ (accounts : List Account) (s : IsShared accounts) (w : ℕ) (a : Account) (is : StandsAt accounts w a)
    (there : 0 < a.share) where
  -- the shares still add up if an account changes but keeps its share
  pub shared_set : (b : Account) → b.share ≡ a.share → IsShared (set accounts w b)
  shared_set b same = record {
    sum = omega (arith, s.sum, sum_of-set (λ (x : Account). x.share) accounts w a b is);
    no_share = set_all HasNoMore accounts w b s.no_share (λ none. absurd (omega arith));
  }

  pub shared_split : (units : ℕ) → 0 < units → units < a.share
      → IsShared (set accounts w (after_split units a) ++ part units ∷ [])
  shared_split units some less =
      record {
        sum =
            omega (
              arith,
              s.sum,
              sum_of-set (λ (x : Account). x.share) accounts w a (after_split units a) is,
              sum_of-append (λ (x : Account). x.share) (set accounts w (after_split units a)) (part units ∷ []),
            );
        no_share =
            push_all HasNoMore (set accounts w (after_split units a)) (part units)
            (set_all HasNoMore accounts w (after_split units a) s.no_share (λ none. absurd (omega arith)))
            (λ none. absurd (omega arith));
      }

  pub shared_join : (v : ℕ) (b : Account) → v ≢ w → StandsAt accounts v b
      → IsShared (set (set accounts w (after_join a b)) v no_share)
  shared_join v b apart at = record { sum = sum; no_share = each }
    where
      still : StandsAt (set accounts w (after_join a b)) v b
      still = set_else accounts w v (after_join a b) apart ∙ at

      sum : shares (set (set accounts w (after_join a b)) v no_share) ≡ whole
      sum = omega (
        arith,
        s.sum,
        sum_of-set (λ (x : Account). x.share) accounts w a (after_join a b) is,
        sum_of-set (λ (x : Account). x.share) (set accounts w (after_join a b)) v b no_share still,
      )

      each : (u : ℕ) (x : Account) → StandsAt (set (set accounts w (after_join a b)) v no_share) u x → HasNoMore x
      each = set_all HasNoMore (set accounts w (after_join a b)) v no_share
          (set_all HasNoMore accounts w (after_join a b) s.no_share (λ none. absurd (omega arith)))
          (λ none. nothing_no_share)
