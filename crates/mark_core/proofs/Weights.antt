-- The sum of the idle numbers is at most the number of accounts, after each event.
use Rattle.std.proofs.Common.{◌≡◌, ◌≢◌, ℕ, ◌+◌, ◌<◌, ◌≤◌, List, [], ◌∷◌, ◌++◌, length, length-set}
use Rattle.std.proofs.Common.{set, sym, refl, subst, ◌∙◌, arith}
use Rattle.std.proofs.lemmas.List.{length-append}
use Rattle.mark_core.proofs.Words.{Full, StandsAt, sum_of, Account, part, no_share, after_split, after_join, Setup}
use Rattle.mark_core.proofs.Words.{Marking, IsThere, Kind, Split, Join, Load, LoadLink, StoreLink, Pop, Fail, IdleUp}
use Rattle.mark_core.proofs.Words.{IdleDown, Event, Allows, IsPossible, effect, happens, HasNumber, weight}
use Rattle.mark_core.proofs.Places.{at_get_or, set_else}
use Rattle.mark_core.proofs.Happens.{happens_as, tried}
use Rattle.mark_core.proofs.Sums.{sum_of-set, sum_of-append}

-- each account has a number, and the weights, which bound the idle numbers, sum to at most the number of accounts
pub record AreNumbered (accounts : List Account) : Type 0 where
  pub numbered : length accounts ≤ 4294967295
  pub weights : sum_of weight accounts ≤ length accounts

module _ (accounts : List Account) (n : AreNumbered accounts) (w : ℕ) (a : Account) (is : StandsAt accounts w a) where
  -- `AreNumbered` holds after an account changed and kept its weight
  numbered_set : (b : Account) → weight b ≡ weight a → AreNumbered (set accounts w b)
  numbered_set b same =
      let long = length-set accounts w b in
      record {
        numbered = omega (arith, n.numbered, long);
        weights = omega (arith, n.weights, same, long, sum_of-set weight accounts w a b is);
      }

  -- a split moves units to a new account, which weighs one
  numbered_split :
      (units : ℕ) → 0 < units → units < a.share → length accounts < 4294967295
      → AreNumbered (set accounts w (after_split units a) ++ part units ∷ [])
  numbered_split units least less room =
      let before = length-set accounts w b in
      let long = length-append (set accounts w b) (part units ∷ []) in
      let changed = sum_of-set weight accounts w a b is in
      let added = sum_of-append weight (set accounts w b) (part units ∷ []) in
      record {
        numbered = omega (arith, room, before, long);
        weights = omega (arith, n.weights, same, new, before, long, changed, added);
      }
    where
      b : Account
      b = after_split units a

      same : weight b ≡ weight a
      same = omega (arith, least, less)

      new : weight (part units) ≡ 1
      new = omega (arith, least)

  -- a join puts two accounts together, which weigh no more than before
  numbered_join :
      (v : ℕ) (b : Account) → v ≢ w → StandsAt accounts v b
      → AreNumbered (set (set accounts w (after_join a b)) v no_share)
  numbered_join v b apart at =
      let one = sum_of-set weight accounts w a both is in
      let other = sum_of-set weight first v b no_share still in
      record {
        numbered = omega (arith, n.numbered, lengths);
        weights = omega (arith, n.weights, lengths, fewer, one, other);
      }
    where
      both : Account
      both = after_join a b

      first : List Account
      first = set accounts w both

      still : StandsAt first v b
      still = set_else accounts w v both apart ∙ at

      lengths : length (set first v no_share) ≡ length accounts
      lengths = omega (arith, length-set accounts w both, length-set first v no_share)

      fewer : weight both ≤ weight a + weight b
      fewer = omega arith

module _
    (e : Setup) (m : Marking) (n : AreNumbered m.accounts)
    (w : ℕ) (a : Account) (there : IsThere m.accounts w a) where
  put : (b : Account) → weight b ≡ weight a → AreNumbered (set m.accounts w b)
  put = numbered_set m.accounts n w a there.0

  effect_numbered :
      (kind : Kind) → Allows e m w a kind → HasNumber kind m.accounts → AreNumbered (effect m w a kind).accounts
  effect_numbered (Split units) can room = numbered_split m.accounts n w a there.0 units can.0 can.1 room
  effect_numbered (Join v) can room =
      let here = at_get_or m.accounts v can.1.0 no_share can.1.1.0 in
      subst (λ x. AreNumbered (set (set m.accounts w (after_join a x)) v no_share)) (sym here)
      (numbered_join m.accounts n w a there.0 v can.1.0 can.0 can.1.1.0)
  effect_numbered (Load Full) can room = put _ refl
  effect_numbered (LoadLink Full) can room = put _ refl
  effect_numbered (StoreLink i l) can room = n
  effect_numbered (Pop q) can room =
      tried (λ (x : Marking). AreNumbered x.accounts) m w a q n (λ i l. put _ refl)
  effect_numbered (Fail q) can room = n
  effect_numbered IdleUp can room = put _ (omega (arith, can.0, can.1))
  effect_numbered IdleDown can room = put _ (omega (arith, can.0, can.1))
  effect_numbered _ can room = put _ refl

pub happens_numbered :
    (e : Setup) (m : Marking) (event : Event) → AreNumbered m.accounts → IsPossible e m event
    → HasNumber event.kind m.accounts → AreNumbered (happens m event).accounts
happens_numbered e m event n can room =
    subst (λ (n : Marking). AreNumbered n.accounts) (sym (happens_as e m event can))
    (effect_numbered e m n event.worker can.0 can.1 event.kind can.2 room)

-- an opening account weighs one
pub numbered_opening : (units : ℕ) → 0 < units → AreNumbered (part units ∷ [])
numbered_opening units least = record { numbered = omega arith; weights = omega (arith, least) }
