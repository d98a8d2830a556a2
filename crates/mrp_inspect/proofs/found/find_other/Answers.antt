use Rattle.std.proofs.Common.{◌≡◌, ◌∙◌, ◌+◌, ◌++◌, ◌∷◌, ℕ, Bool, List, true, false, ap, drop, get_or, subst, sym, take}
use Rattle.std.specs.List.{All}
use Rattle.std.proofs.lemmas.List.{drop_more, take-append-drop, take_all}
use Rattle.mrp_words.specs.Folder.{IsThere, Known}
use Rattle.mrp_inspect.specs.Found.{other_path}
use Rattle.mrp_inspect.specs.Names.{all_namings}
use Rattle.mrp_inspect.specs.declared.names.Naming.{Naming}
use Rattle.mrp_inspect.specs.declared.names.Naming.TheVariants.{Capital}
use Rattle.mrp_inspect.proofs.Growing.{all-more}
use Rattle.mrp_inspect.proofs.found.find_other.Goals as goal

pub returns-then-there : goal.returns-then-there
returns-then-there g c =
    let k = c.loop-naming.naming-index in
    let naming : Naming = get_or all_namings k Capital in
    let path : List ℕ = other_path c.args.folder.now c.args.table naming in
    let whole : take k all_namings ++ naming ∷ drop (k + 1) all_namings ≡ all_namings =
    ap (λ (ns : List Naming). take k all_namings ++ ns) (sym (drop_more all_namings k Capital c.loop-naming-test.true)) ∙ take-append-drop k all_namings in
    let there : IsThere (g.F.FileStore.known c.args.files.now) path true = subst (λ (b : Bool). IsThere (g.F.FileStore.known c.args.files.now) path b) c.if-there.true c.in_ok-there.ensures in
    (take k all_namings, drop (k + 1) all_namings, sym whole, c.loop-naming.invariant, there)

pub loop-naming-preserved : goal.loop-naming-preserved
loop-naming-preserved g c =
    let known : Known = g.F.FileStore.known c.args.files.now in
    let k = c.loop-naming.naming-index in
    let path : List ℕ = other_path c.args.folder.now c.args.table (get_or all_namings k Capital) in
    let absent : IsThere known path false = subst (λ (b : Bool). IsThere known path b) c.if-there.false c.in_ok-there.ensures in
    all-more (λ (naming : Naming). IsThere known (other_path c.args.folder.now c.args.table naming) false) all_namings k Capital c.loop-naming-test.true absent c.loop-naming.invariant

pub returns : goal.returns
returns g c =
    let known : Known = g.F.FileStore.known c.args.files.now in
    let P : Naming → Type 0 = λ naming. IsThere known (other_path c.args.folder.now c.args.table naming) false in
    subst (λ (ns : List Naming). All P ns) (take_all c.loop-naming.naming-index all_namings c.loop-naming-test.false) c.loop-naming.invariant
