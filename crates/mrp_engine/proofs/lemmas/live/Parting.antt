-- Desks are parted from how their calls ended, one by one.
use Rattle.std.proofs.Common.{◌≡◌, ◌∙◌, ◌++◌, List, [], ◌∷◌, Result, Vec, Ok, Err, IsOk, is_ok, true, length, map, ap, arith, refl, subst, sym}
use Rattle.std.specs.declared.alloc.Global.{Global}
use Rattle.std.proofs.lemmas.List.{append_assoc, get_or_append_left, get_or_push, length_push, map-append}
use Rattle.std.proofs.lemmas.List.Elements.{All-push}
use Rattle.mrp_book.specs.declared.refused.Refused.{Refused}
use Rattle.mrp_desk.specs.Offices.{Desk}
use Rattle.mrp_engine.specs.declared.live.serving.Served.{Served}
use Rattle.mrp_engine.specs.live.Desks.{EndAs}
use Rattle.mrp_engine.specs.live.Runs.{RunResult}

abbrev pub End : Type 0
End = Result (Unit {0}) Refused

abbrev pub Lists : Type 0
Lists = List (Vec RunResult Global)

-- some of the desks are parted, the others are left
pub record AreParted (all rest : List Served) (desks : List Desk) (lists : Lists) (end : End) : Type 0 where
  pub done : List Served
  pub left : all ≡ done ++ rest
  pub desks_are : desks ≡ map (λ (s : Served). s.desk) done
  pub lists_are : lists ≡ map (λ (s : Served). s.runs) done
  pub ends : EndAs done end

last : (done : List Served) (s : Served) (end : End) → EndAs done (Ok tt) → s.end ≡ end → EndAs (done ++ s ∷ []) end
last done s (Ok u) all is = All-push (λ (x : Served). IsOk x.end) done s all (subst (λ (r : End). IsOk r) (sym is) refl)
last done s (Err e) all is = let long = length_push done s in (length done, s, omega (arith, long), get_or_push done s s (length done) refl, is)

kept : (done : List Served) (s : Served) (e : Refused) → EndAs done (Err e) → EndAs (done ++ s ∷ []) (Err e)
kept done s e (k, x, within, at, is) = let long = length_push done s in (k, x, omega (arith, long, within), get_or_append_left done (s ∷ []) x k within ∙ at, is)

more : (done : List Served) (s : Served) (end new : End) → EndAs done end → (IsOk end → new ≡ s.end) → ((e : Refused) → end ≡ Err e → new ≡ end) → EndAs (done ++ s ∷ []) new
more done s (Ok u) new ends ok refused = last done s new ends (sym (ok refl))
more done s (Err e) new ends ok refused = subst (EndAs (done ++ s ∷ [])) (sym (refused e refl)) (kept done s e ends)

-- an ending without error is no refusal
pub well-not-refused : {X : Type 0} (end : End) → is_ok end ≡ true → (e : Refused) → end ≡ Err e → X
well-not-refused (Ok u) well e is = absurd (cc)
well-not-refused (Err f) well e is = absurd (cc)

-- one more is parted
pub one-parted : (all rest left : List Served) (desks now : List Desk) (lists grown : Lists) (end new : End) (s : Served) → AreParted all rest desks lists end → rest ≡ s ∷ left → now ≡ desks ++ s.desk ∷ [] → grown ≡ lists ++ s.runs ∷ []
    → (IsOk end → new ≡ s.end) → ((e : Refused) → end ≡ Err e → new ≡ end) → AreParted all left now grown new
one-parted all rest left desks now lists grown end new s before is adds grows ok refused = record {
  done = before.done ++ s ∷ [];
  left = before.left ∙ ap (λ (r : List Served). before.done ++ r) is ∙ sym (append_assoc before.done (s ∷ []) left);
  desks_are = adds ∙ ap (λ (ds : List Desk). ds ++ s.desk ∷ []) before.desks_are ∙ sym (map-append (λ (x : Served). x.desk) before.done (s ∷ []));
  lists_are = grows ∙ ap (λ (ls : Lists). ls ++ s.runs ∷ []) before.lists_are ∙ sym (map-append (λ (x : Served). x.runs) before.done (s ∷ []));
  ends = more before.done s end new before.ends ok refused;
}
