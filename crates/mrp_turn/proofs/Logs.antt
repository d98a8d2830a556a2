-- Logs in which the entries before decide what may follow, and objects that are seen as their log.
use Rattle.std.proofs.Common.{◌≡◌, List, [], ◌∷◌, ◌++◌, refl, sym, ◌∙◌, ap, subst, append_assoc, append-nil}
use Rattle.mrp_turn.specs.declared.log.Entry.{Entry}
use Rattle.mrp_turn.specs.Log.{EachFollows, Leads, by_log}

pub one_more : {E : Type 0} (b : List E) (e : E) (es : List E) → b ++ e ∷ es ≡ (b ++ e ∷ []) ++ es
one_more b e es = sym (append_assoc b (e ∷ []) es)

module _ {E : Type 0} (MayFollow : List E → E → Type 0) where
  -- the entries in order
  abbrev pub InTurn : List E → List E → Type 0
  InTurn before [] = Unit {0}
  InTurn before (e ∷ es) = MayFollow before e × InTurn (before ++ e ∷ []) es

  pub InTurn-from_Each : (before log : List E) → EachFollows MayFollow (before ++ log) → InTurn before log
  InTurn-from_Each before [] each = tt
  InTurn-from_Each before (e ∷ es) each = (each before e es refl, InTurn-from_Each (before ++ e ∷ []) es (subst (EachFollows MayFollow) (one_more before e es) each))

  follows_at : (b before : List E) (e : E) (after : List E) → InTurn b (before ++ e ∷ after) → MayFollow (b ++ before) e
  follows_at b [] e after w = subst (λ x. MayFollow x e) (sym (append-nil b)) w.0
  follows_at b (x ∷ before) e after w = subst (λ y. MayFollow y e) (sym (one_more b x before)) (follows_at (b ++ x ∷ []) before e after w.1)

  pub Each-from_InTurn : (log : List E) → InTurn [] log → EachFollows MayFollow log
  Each-from_InTurn log w before e after same = follows_at [] before e after (subst (InTurn []) same w)

  turn_more : (b log : List E) (e : E) → InTurn b log → MayFollow (b ++ log) e → InTurn b (log ++ e ∷ [])
  turn_more b [] e w m = (subst (λ x. MayFollow x e) (append-nil b) m, tt)
  turn_more b (x ∷ log) e w m = (w.0, turn_more (b ++ x ∷ []) log e w.1 (subst (λ y. MayFollow y e) (one_more b x log) m))

  pub EachFollows-nil : EachFollows MayFollow []
  EachFollows-nil = Each-from_InTurn [] tt

  -- one more entry that may follow
  pub EachFollows-more : (log : List E) (e : E) → EachFollows MayFollow log → MayFollow log e → EachFollows MayFollow (log ++ e ∷ [])
  EachFollows-more log e each m = Each-from_InTurn (log ++ e ∷ []) (turn_more [] log e (InTurn-from_Each [] log each) m)

  -- a prefix of such a log
  pub EachFollows-front : (log more : List E) → EachFollows MayFollow (log ++ more) → EachFollows MayFollow log
  EachFollows-front log more each before e after same = each before e (after ++ more) (ap (λ x. x ++ more) same ∙ append_assoc before (e ∷ after) more)

module _ {C R : Type 0} (MayFollow : List (Entry C R) → Entry C R → Type 0) where
  leads_turn : (before log t : List (Entry C R)) → Leads (by_log MayFollow) before log t → InTurn MayFollow before log × (t ≡ before ++ log)
  leads_turn before [] t e = (tt, sym e ∙ sym (append-nil before))
  leads_turn before (x ∷ log) t (u, (m, e), rest) =
      let r = leads_turn (before ++ x ∷ []) log t (subst (λ v. Leads (by_log MayFollow) v log t) e rest) in
      ((m, r.0), r.1 ∙ sym (one_more before x log))

  turn_leads : (before log : List (Entry C R)) → InTurn MayFollow before log → Leads (by_log MayFollow) before log (before ++ log)
  turn_leads before [] w = sym (append-nil before)
  turn_leads before (x ∷ log) w =
      (before ++ x ∷ [], (w.0, refl), subst (λ v. Leads (by_log MayFollow) (before ++ x ∷ []) log v) (sym (one_more before x log)) (turn_leads (before ++ x ∷ []) log w.1))

  -- Of an object that is seen as its log, a legal log is one in which each entry may follow, and the state is the log
  pub legal_follows : (log t : List (Entry C R)) → Leads (by_log MayFollow) [] log t → EachFollows MayFollow log × (t ≡ log)
  legal_follows log t l = let r = leads_turn [] log t l in (Each-from_InTurn MayFollow log r.0, r.1)

  pub follows_legal : (log : List (Entry C R)) → EachFollows MayFollow log → Leads (by_log MayFollow) [] log log
  follows_legal log each = turn_leads [] log (InTurn-from_Each MayFollow [] log each)
