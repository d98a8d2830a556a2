-- From the place at the table to the seat that contracts see.
use Rattle.std.proofs.Common.{◌≡◌, ℕ, List, [], ◌∷◌, Option, Result, false, sym, refl, ap, ◌∙◌, subst}
use Rattle.atomic_table.specs.Table.{Me}
use Rattle.mrp_turn.specs.declared.views.View.{View}
use Rattle.mrp_turn.specs.declared.log.Entry.{Entry}
use Rattle.mrp_turn.specs.declared.log.Held.{Held}
use Rattle.mrp_turn.specs.declared.views.About.{About}
use Rattle.mrp_turn.specs.declared.views.Account.{Account}
use Rattle.mrp_turn.specs.declared.views.LiveSeat.{LiveSeat}
use Rattle.mrp_turn.specs.declared.turn.CallFault.{CallFault}
use Rattle.mrp_turn.specs.Lists.{StartsWith}
use Rattle.mrp_turn.specs.Rule.{live, account, alone, seen_of, mine_of}
use Rattle.mrp_turn.specs.Steps.{joined, noted}
use Rattle.mrp_turn.specs.Seen.{TurnId, Seated}
use Rattle.mrp_turn.specs.Calls.{SeatTells, IsAt}

abbrev pub M : Type 0 → Type 0 → Type 0 → Type 0 → Type 0
M O S C R = Me (Option (Held S C R)) (View O C R)

module _ {O S C R : Type 0} where
  pub rests : (key : About O) (n : ℕ) (m : M O S C R) (seen mine : List (Entry C R)) → m ≡ (live (alone key (account n seen mine)), []) → m ≡ (live (alone key (account n (seen_of m.0) (mine_of m.0))), [])
  rests key n m seen mine e = e ∙ ap (λ (x : M O S C R). (live (alone key (account n (seen_of x.0) (mine_of x.0))), [])) (sym e)

  pub is_seat : (key : About O) (n : ℕ) (m : M O S C R) (seen mine : List (Entry C R)) → m ≡ (live (alone key (account n seen mine)), []) → (key' : About O) → key ≡ key' → IsAt key' n m
  is_seat key n m seen mine e key' k = record { seat = alone key (account n seen mine); is = e; rests = refl; about = k; number = refl; notes = tt }

module _ {O S C R E : Type 0} (opens : O → S → Type 0) (answers : O → S → ℕ → C → R → S → Type 0) (refuses out_of_memory : O → S → ℕ → C → E → Type 0) where
  abbrev seated : TurnId O → ℕ → List (Entry C R) → List (Entry C R) → Seated O C R
  seated turn n seen mine = record { turn = turn; number = n; seen = seen; mine = mine }

  -- what the contract of the place says, of the seat over it
  pub seat_told : (call : C) (result : Result (ℕ × R) (CallFault E)) (was now : Seated O C R) → was ≡ now → (turn : TurnId O) → now.turn ≡ turn → (n : ℕ) (m : M O S C R) (seen mine : List (Entry C R))
      → m ≡ (live (alone was.turn.about (account n seen mine)), []) → SeatTells opens answers refuses out_of_memory was.turn.about call was result (seated was.turn was.number seen mine)
      → SeatTells opens answers refuses out_of_memory turn.about call now result (seated now.turn now.number (seen_of m.0) (mine_of m.0))
  seat_told call result was now e turn at n m seen mine is t = let same : was.turn ≡ turn = ap (λ x. x.turn) e ∙ at in
      subst (λ (x : Seated O C R × M O S C R × TurnId O). SeatTells opens answers refuses out_of_memory x.2.about call x.0 result (seated x.0.turn x.0.number (seen_of x.1.0) (mine_of x.1.0))) (λ i. (e i, sym is i, same i)) t

-- a seat that keeps a note of what another has seen
abbrev pub noting : {O C R : Type 0} → About O → Account C R → List (Entry C R) → LiveSeat O C R
noting key own seen = record { about = key; own = own; kept = account 0 seen [] ∷ []; holds = false }

module _ {O S C R : Type 0} where
  pub note_is : (o n : M O S C R) (key : About O) (own : Account C R) → o ≡ (live (alone key own), []) → n ≡ (noted o.0, []) → n ≡ (live (alone key (account 0 own.seen [])), [])
  note_is o n key own e is = is ∙ ap (λ (x : M O S C R). (noted x.0, [])) e

  pub joined_is : (s n m : M O S C R) (key key' : About O) (own : Account C R) (seen : List (Entry C R)) → s ≡ (live (alone key own), []) → n ≡ (live (alone key' (account 0 seen [])), []) → m ≡ (joined s.0 n.0, s.1) → m ≡ (live (noting key own seen), [])
  joined_is s n m key key' own seen e f is = is ∙ (λ i. (joined (e i).0 (f i).0, (e i).1))

  pub is_noting : (key : About O) (own : Account C R) (m : M O S C R) (seen : List (Entry C R)) → m ≡ (live (noting key own seen), []) → (key' : About O) → key ≡ key' → IsAt key' own.number m
  is_noting key own m seen e key' k = record { seat = noting key own seen; is = e; rests = refl; about = k; number = refl; notes = (refl, tt) }

  pub met : (m : M O S C R) (key : About O) (n : ℕ) (seen mine theirs theirs' : List (Entry C R)) → m ≡ (live (alone key (account n seen mine)), []) → theirs ≡ theirs' → StartsWith seen theirs → StartsWith (seen_of m.0) theirs'
  met m key n seen mine theirs theirs' e t h = subst (λ (x : M O S C R × List (Entry C R)). StartsWith (seen_of x.0.0) x.1) (λ i. (sym e i, t i)) h
