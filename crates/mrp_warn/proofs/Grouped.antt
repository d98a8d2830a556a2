-- Kinds with their warnings, one after another.
use Rattle.std.proofs.Common.{ℕ, ◌+◌, ◌<◌, ◌≤◌, List, [], ◌∷◌, ◌++◌, length, take, get_or, subst, sym}
use Rattle.std.specs.List.{AllZip}
use Rattle.std.proofs.lemmas.List.{take_all, take_more}
use Rattle.mrp_script.proofs.Zipped.{zip-push}
use Rattle.mrp_warn.specs.declared.kind.Kind.{Kind}
use Rattle.mrp_warn.specs.declared.telling.Group.{Group}
use Rattle.mrp_warn.specs.Inspection.{Inspected}
use Rattle.mrp_warn.specs.Tells.{AreGroups, IsGroup}

-- one more kind
pub groups-more : (i : Inspected) (all : List Kind) (k : ℕ) (d : Kind) (groups : List Group) (group : Group) → k < length all
    → AllZip (IsGroup i) (take k all) groups → IsGroup i (get_or all k d) group → AllZip (IsGroup i) (take (k + 1) all) (groups ++ group ∷ [])
groups-more i all k d groups group within are one =
    subst (λ (ks : List Kind). AllZip (IsGroup i) ks (groups ++ group ∷ [])) (sym (take_more all k d within)) (zip-push (IsGroup i) (take k all) groups (get_or all k d) group are one)

-- all of them
pub groups-all : (i : Inspected) (all : List Kind) (k : ℕ) (groups : List Group) → length all ≤ k → AllZip (IsGroup i) (take k all) groups → AreGroups i all groups
groups-all i all k groups whole are = subst (λ (ks : List Kind). AllZip (IsGroup i) ks groups) (take_all k all whole) are

-- those of some kinds, and of others behind them
pub groups-both : (i : Inspected) (front back : List Kind) (first second : List Group) → AreGroups i front first → AreGroups i back second → AreGroups i (front ++ back) (first ++ second)
groups-both i [] back [] second are others = others
groups-both i [] back (g ∷ first) second are others = absurd are
groups-both i (k ∷ front) back [] second are others = absurd are
groups-both i (k ∷ front) back (g ∷ first) second are others = (are.0, groups-both i front back first second are.1 others)
