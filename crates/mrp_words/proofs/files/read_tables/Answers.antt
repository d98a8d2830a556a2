use Rattle.std.proofs.Common.{◌≡◌, ◌∙◌, ◌+◌, ◌++◌, [], ◌∷◌, ◌<◌, ℕ, List, Option, Some, None, Err, Vec, ap, arith, get_or, length, map, option_map, rules, subst, sym, take}
use Rattle.std.proofs.lemmas.List.{map-append, take_all}
use Rattle.std.specs.declared.alloc.Global.{Global}
use Rattle.mrp_rows.specs.declared.fault.Table.{Table}
use Rattle.mrp_rows.specs.declared.fault.Table.TheVariants.{Calendar}
use Rattle.mrp_rows.specs.declared.streams.ReadFault.TheVariants as read
use Rattle.mrp_rows.specs.Joined.{Part, joined, section_bytes, section_of}
use Rattle.mrp_rows.specs.declared.streams.TheConstants.{GREATEST_BUNDLE}
use Rattle.mrp_words.specs.Folder.{IsAt, Known, all_tables, path_in}
use Rattle.mrp_words.proofs.Folders.{ArePartsOf, all-parts, next-file, joined_length, next-none, none-there, section-too-much, too-much}
use Rattle.mrp_words.proofs.files.read_tables.Goals as goal
use Rattle.mrp_words.proofs.files.read_tables.Goals.{in-Some+in_ok-left+in_ok-push_table, in_default}

abbrev part_of : Table × Vec ℕ Global → Part
part_of read = (read.0, read.1.items)

-- how many bytes a table's section has
abbrev section_size : Table → List ℕ → ℕ
section_size table bytes = length (section_bytes (section_of (table, bytes)))

pub loop-table-preserved : goal.loop-table-preserved
loop-table-preserved g c =
    let known : Known = g.F.FileStore.known c.args.files.now in
    let folder : List ℕ = c.args.folder.now in
    let k = c.loop-table.table-index in
    let table : Table = get_or all_tables k Calendar in
    let parts : List Part = map part_of c.loop-table.tables.items in
    let found : IsAt known (path_in folder table) (option_map (λ (bytes : Vec ℕ Global). bytes.items) c.in_ok-file.file) = c.in_ok-file.ensures.bytes in
    elim c.match-file.branch [
      | in-Some+in_ok-left+in_ok-push_table w ↦
          let bytes : List ℕ = w.in-Some.bytes.items in
          let at : IsAt known (path_in folder table) (Some bytes) =
          subst (λ (file : Option (Vec ℕ Global)). IsAt known (path_in folder table) (option_map (λ (bytes : Vec ℕ Global). bytes.items) file)) w.in-Some.is found in
          let adds : c.match-file.tables.items ≡ c.loop-table.tables.items ++ (table, w.in-Some.bytes) ∷ [] =
          ap (λ (tables : Vec (Table × Vec ℕ Global) Global). tables.items) w.tables-is ∙ w.in_ok-push_table.ensures.pushed in
          let more : map part_of c.match-file.tables.items ≡ parts ++ (table, bytes) ∷ [] = ap (map part_of) adds ∙ map-append part_of c.loop-table.tables.items ((table, w.in-Some.bytes) ∷ []) in
          let sum = joined_length parts (table, bytes) in
          let left = w.left-is in
          let leaves : w.in_ok-left.left + section_size table bytes ≡ c.loop-table.left =
          subst (λ (b : List ℕ). w.in_ok-left.left + section_size table b ≡ c.loop-table.left) w.as_slice.ensures.value w.in_ok-left.ensures.leaves in
          let all = c.loop-table.invariant.1 in (
            subst (λ (ps : List Part). ArePartsOf known folder (take (k + 1) all_tables) ps) (sym more)
                (next-file known folder all_tables k Calendar parts bytes c.loop-table-test.true c.loop-table.invariant.0 at),
            subst (λ (ps : List Part). c.match-file.left + length (joined ps) ≡ GREATEST_BUNDLE) (sym more) (omega (arith, sum, left, leaves, all)),
          )
      | in_default w ↦
          let at : IsAt known (path_in folder table) None =
          subst (λ (file : Option (Vec ℕ Global)). IsAt known (path_in folder table) (option_map (λ (bytes : Vec ℕ Global). bytes.items) file)) (none-there c.in_ok-file.file w.in_default.not-Some) found in
          let same : map part_of c.match-file.tables.items ≡ parts = ap (λ (tables : Vec (Table × Vec ℕ Global) Global). map part_of tables.items) w.tables-is in (
            subst (λ (ps : List Part). ArePartsOf known folder (take (k + 1) all_tables) ps) (sym same)
                (next-none known folder all_tables k Calendar parts c.loop-table-test.true c.loop-table.invariant.0 at),
            subst (λ (ps : List Part). c.match-file.left + length (joined ps) ≡ GREATEST_BUNDLE) (sym same) (ap (λ (n : ℕ). n + length (joined parts)) w.left-is ∙ c.loop-table.invariant.1),
          )
    ]

pub returns-in_err-file-clause-past : goal.returns-in_err-file-clause-past
returns-in_err-file-clause-past g c e =
    let known : Known = g.F.FileStore.known c.args.files.now in
    let k = c.loop-table.table-index in
    let fails : c.from_residual.result ≡ Err c.in_err-file.field-0.0 = search rules in
    let is : c.in_err-file.field-0.0 ≡ read.Read = cc (fails, e) in
    too-much known c.args.folder.now k Calendar (map part_of c.loop-table.tables.items) c.loop-table.left c.loop-table-test.true c.loop-table.invariant.0 c.loop-table.invariant.1 (c.in_err-file.ensures.past (ap Err is))

pub returns-in_err-left-clause-past : goal.returns-in_err-left-clause-past
returns-in_err-left-clause-past g c e =
    let known : Known = g.F.FileStore.known c.args.files.now in
    let k = c.loop-table.table-index in
    let at : IsAt known (path_in c.args.folder.now (get_or all_tables k Calendar)) (Some c.in-Some.bytes.items) =
    subst (λ (file : Option (Vec ℕ Global)). IsAt known (path_in c.args.folder.now (get_or all_tables k Calendar)) (option_map (λ (bytes : Vec ℕ Global). bytes.items) file)) c.in-Some.is c.in_ok-file.ensures.bytes in
    let long : c.loop-table.left < section_size (get_or all_tables k Calendar) c.in-Some.bytes.items =
    subst (λ (b : List ℕ). c.loop-table.left < section_size (get_or all_tables k Calendar) b) c.as_slice.ensures.value c.in_err-left.ensures.past.1 in
    section-too-much known c.args.folder.now k Calendar (map part_of c.loop-table.tables.items) c.in-Some.bytes.items c.loop-table.left c.loop-table-test.true c.loop-table.invariant.0 c.loop-table.invariant.1 long at

pub returns-clause-parts : goal.returns-clause-parts
returns-clause-parts g c =
    let known : Known = g.F.FileStore.known c.args.files.now in
    let k = c.loop-table.table-index in
    all-parts known c.args.folder.now (take k all_tables) (map part_of c.loop-table.tables.items) c.loop-table.left (take_all k all_tables c.loop-table-test.false) c.loop-table.invariant.0 c.loop-table.invariant.1
