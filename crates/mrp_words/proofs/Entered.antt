-- Words that clap accepts enter one of the commands.
use Rattle.std.proofs.Common.{◌≡◌, ◌∙◌, ◌&&◌, ◌||◌, ◌⊎◌, inl, inr, Bool, true, false, not, cond, List, [], ◌∷◌, Option, Some, None, is_some, option_map, ap, codes, fold, refl, subst, sym, true≢false}
use Rattle.std.specs.Prelude.{⊤}
use Rattle.std.specs.Str.{bytes_eq}
use Rattle.std.specs.List.{find}
use Rattle.std.proofs.lemmas.Slice.Eq.{bytes_eq-Decides}
use Rattle.clap.specs.Faults.{check_fault, defaults_fault, entered_fault, level_fault, other_fault, settle_fault, step_fault, turn_fault, walk_fault, word_fault}
use Rattle.clap.specs.Kinds.{Kinds, or_else}
use Rattle.clap.specs.Simple.{App, Shape, built, entered, label_of, names_of, rows_at, subcommand_of}
use Rattle.clap.specs.Walk.{Held, Names, Outcome, Row, Rule, Step, Text, Waiting, Walk, after_flag, after_step, answers_to, arg_by_index, bundle, done, finished, idle, long_met, long_or_other, arg_by_long, next, nothing_held, option, plain, plain_word, positional, refused, settled, short_or_plain, stop_after, subcommand, subcommand_met, subcommand_or_other, to_positional, trailing, value, waits, walk, walk_from, walked, walked_from, word_met}
use Rattle.clap.specs.Lexer.{long_of, short_of}
use Rattle.clap.specs.declared.error.kind.ErrorKind.{ErrorKind}
use Rattle.clap.specs.declared.error.kind.ErrorKind.TheVariants as kind
use Rattle.mrp_words.specs.Words.{IsEntered, mrp_command, refusals}
use Rattle.mrp_words.specs.declared.day.DayCommand.TheVariants.{Plan, Live}

some-kind : (k : ErrorKind) (ks : Kinds) → (k ∷ ks) ≡ [] → ⊥
some-kind k ks e = cc

-- if there is no fault, there is none in either part
or-else-none : (one other : Kinds) → or_else one other ≡ [] → (one ≡ []) × (other ≡ [])
or-else-none [] other e = (refl, e)
or-else-none (k ∷ ks) other e = absurd (some-kind k ks e)

-- A word that is `help` ends a walk with a fault.

-- a walk has not stopped at `help`
abbrev NotAtHelp : Option (Text × List Text) → Type 0
NotAtHelp None = ⊤
NotAtHelp (Some stop) = bytes_eq stop.0 (codes "help") ≡ false

-- no step into a subcommand
abbrev StaysAbove : Step → Type 0
StaysAbove (subcommand name) = ⊥
StaysAbove (next waiting) = ⊤
StaysAbove (trailing position) = ⊤
StaysAbove value = ⊤

plain-stays : (c : List Rule) (waiting : Waiting) (word : Text) (h : Held) → StaysAbove (plain_word c waiting word h).1
plain-stays c idle word h = tt
plain-stays c (option id) word h = tt
plain-stays c positional word h = tt

flag-stays : (c : List Rule) (waiting : Waiting) (word : Text) (h : Held) (met : Outcome) → StaysAbove (after_flag c waiting word h met).1
flag-stays c waiting word h done = tt
flag-stays c waiting word h (waits id) = tt
flag-stays c waiting word h plain = plain-stays c waiting word h
flag-stays c waiting word h refused = plain-stays c waiting word h

short-stays : (c : List Rule) (waiting : Waiting) (word : Text) (flags : Option Text) (h : Held) → StaysAbove (short_or_plain c waiting word flags h).1
short-stays c waiting word (Some flags) h = flag-stays c waiting word (bundle c flags h).0 (bundle c flags h).1
short-stays c waiting word None h = plain-stays c waiting word h

long-stays : (c : List Rule) (waiting : Waiting) (word : Text) (long : Option (Text × Option Text)) (h : Held) → StaysAbove (long_or_other c waiting word long h).1
long-stays c waiting word (Some p) h = flag-stays c waiting word (long_met c (arg_by_long c p.0) p.1 h).0 (long_met c (arg_by_long c p.0) p.1 h).1
long-stays c waiting word None h = short-stays c waiting word (short_of word) h

positional-goes-on : (c : List Rule) (found : Option Rule) (word : Text) (w : Walk) (h : Held) → w.stopped ≡ None → NotAtHelp (to_positional c found word w h).stopped
positional-goes-on c None word w h goes = subst NotAtHelp (sym goes) tt
positional-goes-on c (Some a) word w h goes = tt

step-goes-on : (c : List Rule) (word : Text) (w : Walk) (h : Held) (step : Step) → StaysAbove step → w.stopped ≡ None → NotAtHelp (after_step c word w h step).stopped
step-goes-on c word w h (next waiting) stays goes = subst NotAtHelp (sym goes) tt
step-goes-on c word w h (trailing position) stays goes = subst NotAtHelp (sym goes) tt
step-goes-on c word w h (subcommand name) stays goes = absurd stays
step-goes-on c word w h value stays goes = positional-goes-on c (arg_by_index c w.position) word w h goes

dashes-go-on : (c : List Rule) (are : Bool) (waiting : Waiting) (word : Text) (w : Walk) (h : Held) → w.stopped ≡ None
    → let met : Held × Step = cond are (h, trailing w.position) (long_or_other c waiting word (long_of word) h) in NotAtHelp (after_step c word w met.0 met.1).stopped
dashes-go-on c true waiting word w h goes = subst NotAtHelp (sym goes) tt
dashes-go-on c false waiting word w h goes =
    step-goes-on c word w (long_or_other c waiting word (long_of word) h).0 (long_or_other c waiting word (long_of word) h).1 (long-stays c waiting word (long_of word) h) goes

no-help : (is off : Bool) (kinds : Kinds) → off ≡ false → ((kinds ≡ []) → ⊥) → cond (is && not off) kinds [] ≡ [] → is ≡ false
no-help false off kinds on some e = refl
no-help true true kinds on some e = absurd (true≢false on)
no-help true false kinds on some e = absurd (some e)

other-goes-on : (s : Shape) (named : Option Text) (waiting : Waiting) (word : Text) (w : Walk) (h : Held) → s.disable_help_subcommand ≡ false → w.stopped ≡ None
    → other_fault s named word h ≡ [] → let met = subcommand_or_other s.rules named waiting w.position word h in NotAtHelp (after_step s.rules word w met.0 met.1).stopped
other-goes-on s (Some name) waiting word w h on goes fault = no-help (bytes_eq name (codes "help")) s.disable_help_subcommand (kind.DisplayHelp ∷ kind.InvalidSubcommand ∷ []) on (λ e. some-kind kind.DisplayHelp (kind.InvalidSubcommand ∷ []) e) fault
other-goes-on s None waiting word w h on goes fault = dashes-go-on s.rules (bytes_eq word (45 ∷ 45 ∷ [])) waiting word w h goes

word-goes-on : (s : Shape) (names : Names) (is_trailing : Bool) (waiting : Waiting) (word : Text) (w : Walk) (h : Held) → s.disable_help_subcommand ≡ false → w.stopped ≡ None
    → word_fault s names is_trailing waiting word h ≡ [] → let met = word_met s.rules names is_trailing waiting w.position word h in NotAtHelp (after_step s.rules word w met.0 met.1).stopped
word-goes-on s names true waiting word w h on goes fault = positional-goes-on s.rules (arg_by_index s.rules w.position) word w h goes
word-goes-on s names false waiting word w h on goes fault = other-goes-on s (subcommand_met names waiting word) waiting word w h on goes fault

-- one more word
stop-goes-on : (s : Shape) (names : Names) (stop : Option (Text × List Text)) (w : Walk) (word : Text) → s.disable_help_subcommand ≡ false → w.stopped ≡ stop → NotAtHelp stop
    → let met = word_met s.rules names w.is_trailing w.waiting w.position word w.held in
    cond (is_some stop) [] (or_else (word_fault s names w.is_trailing w.waiting word w.held) (step_fault s w.position met.0 met.1)) ≡ [] → NotAtHelp (walked_from s.rules names stop w word).stopped
stop-goes-on s names (Some p) w word on at before fault = before
stop-goes-on s names None w word on at before fault =
    let met = word_met s.rules names w.is_trailing w.waiting w.position word w.held in
    word-goes-on s names w.is_trailing w.waiting word w w.held on at
    (or-else-none (word_fault s names w.is_trailing w.waiting word w.held) (step_fault s w.position met.0 met.1) fault).0

turn-goes-on : (s : Shape) (names : Names) (w : Walk) (word : Text) → s.disable_help_subcommand ≡ false → NotAtHelp w.stopped → turn_fault s names w word ≡ []
    → NotAtHelp (walked s.rules names w word).stopped
unfolding walked
turn-goes-on s names w word on before fault = stop-goes-on s names w.stopped w word on refl before fault

walk-goes-on : (s : Shape) (names : Names) (w : Walk) (words : List Text) → s.disable_help_subcommand ≡ false → NotAtHelp w.stopped → walk_fault s names w words ≡ []
    → NotAtHelp (fold (walked s.rules names) w words).stopped
unfolding walk_fault
walk-goes-on s names w [] on before fault = before
walk-goes-on s names w (word ∷ rest) on before fault =
    let parts = or-else-none (turn_fault s names w word) (walk_fault s names (walked s.rules names w word) rest) fault in
    walk-goes-on s names (walked s.rules names w word) rest on (turn-goes-on s names w word on before parts.0) parts.1

-- Without a fault a command was entered, and it is not `help`.

level-parts : (s : Shape) (names : Names) (h : Held) (words : List Text) (has : Bool) (below : Kinds) → level_fault s names h words has below ≡ []
    → (walk_fault s names (walk_from h) words ≡ []) × (check_fault s (finished s.rules (walk s.rules names h words).held) has ≡ [])
level-parts s names h words has below fault =
    let end : Held = (walk s.rules names h words).held in
    let check : Kinds = check_fault s (finished s.rules end) has in
    let defaults : Kinds = or_else (defaults_fault (settled s.rules end).rows s.rules) check in
    let settle : Kinds = or_else (settle_fault s.rules s.args_override_self end) defaults in
    let after = or-else-none (walk_fault s names (walk_from h) words) (or_else below settle) fault in
    let inner = or-else-none below settle after.1 in
    let used = or-else-none (settle_fault s.rules s.args_override_self end) defaults inner.1 in
    (after.0, (or-else-none (defaults_fault (settled s.rules end).rows s.rules) check used.1).1)

one-is-wanted : (rows : List Row) (has : Bool) → check_fault (built mrp_command).top rows has ≡ [] → has ≡ true
one-is-wanted rows true fault = refl
one-is-wanted rows false fault = absurd (some-kind kind.MissingSubcommand [] fault)

-- one of seven
abbrev OneOf : Option (Text × List Row) → Text × List Row → Text × List Row → Text × List Row → Text × List Row → Text × List Row → Text × List Row → Text × List Row → Type 0
OneOf found one two three four five six seven = (found ≡ Some one) ⊎ ((found ≡ Some two) ⊎ ((found ≡ Some three) ⊎ ((found ≡ Some four) ⊎ ((found ≡ Some five) ⊎ ((found ≡ Some six) ⊎ (found ≡ Some seven))))))

first-seven : (f : Shape → Text × List Row) (one two three four five six seven eight : Shape) (is_one is_two is_three is_four is_five is_six is_seven is_eight : Bool) → is_eight ≡ false
    → let found = option_map f (cond is_one (Some one) (cond is_two (Some two) (cond is_three (Some three) (cond is_four (Some four) (cond is_five (Some five) (cond is_six (Some six) (cond is_seven (Some seven) (cond is_eight (Some eight) None)))))))) in
    is_some found ≡ true → OneOf found (f one) (f two) (f three) (f four) (f five) (f six) (f seven)
first-seven f one two three four five six seven eight true is_two is_three is_four is_five is_six is_seven is_eight none some = inl refl
first-seven f one two three four five six seven eight false true is_three is_four is_five is_six is_seven is_eight none some = inr (inl refl)
first-seven f one two three four five six seven eight false false true is_four is_five is_six is_seven is_eight none some = inr (inr (inl refl))
first-seven f one two three four five six seven eight false false false true is_five is_six is_seven is_eight none some = inr (inr (inr (inl refl)))
first-seven f one two three four five six seven eight false false false false true is_six is_seven is_eight none some = inr (inr (inr (inr (inl refl))))
first-seven f one two three four five six seven eight false false false false false true is_seven is_eight none some = inr (inr (inr (inr (inr (inl refl)))))
first-seven f one two three four five six seven eight false false false false false false true is_eight none some = inr (inr (inr (inr (inr (inr refl)))))
first-seven f one two three four five six seven eight false false false false false false false true none some = absurd (true≢false none)
first-seven f one two three four five six seven eight false false false false false false false false none some = absurd (true≢false (sym some))

-- a text that is not `help` is not answered to by it
help-apart : (text : Text) (is : Bool) → bytes_eq text (codes "help") ≡ false → bytes_eq (codes "help") text ≡ is → is ≡ false
help-apart text false apart same = refl
help-apart text true apart same =
    let equal : codes "help" ≡ text = (bytes_eq-Decides (codes "help") text).0 same in
    let itself : bytes_eq (codes "help") (codes "help") ≡ false = subst (λ (t : Text). bytes_eq t (codes "help") ≡ false) (sym equal) apart in
    absurd (true≢false itself)

label-apart : (word name : Text) → bytes_eq name word ≡ false → answers_to word (name, []) ≡ false
label-apart word name apart = subst (λ (b : Bool). (b || false) ≡ false) (sym apart) refl

-- of eight subcommands, the last of which is `help`, one of the others was entered
of-eight : (a : App) (plan live page check carry inspect desk help : Shape) (p : Text × List Text) → a.subs ≡ plan ∷ live ∷ page ∷ check ∷ carry ∷ inspect ∷ desk ∷ help ∷ [] → label_of help ≡ (codes "help", []) → bytes_eq p.0 (codes "help") ≡ false
    → is_some (entered a (Some p)) ≡ true → OneOf (entered a (Some p)) (rows_at plan p.1) (rows_at live p.1) (rows_at page p.1) (rows_at check p.1) (rows_at carry p.1) (rows_at inspect p.1) (rows_at desk p.1)
of-eight a plan live page check carry inspect desk help p subs label apart =
    let Found : List Shape → Option (Text × List Row) = λ xs. option_map (λ (s : Shape). rows_at s p.1) (find (λ (s : Shape). answers_to p.0 (label_of s)) xs) in
    let is_help : answers_to p.0 (label_of help) ≡ false =
    ap (answers_to p.0) label ∙ label-apart p.0 (codes "help") (help-apart p.0 (bytes_eq (codes "help") p.0) apart refl) in
    subst (λ (xs : List Shape). is_some (Found xs) ≡ true → OneOf (Found xs) (rows_at plan p.1) (rows_at live p.1) (rows_at page p.1) (rows_at check p.1) (rows_at carry p.1) (rows_at inspect p.1) (rows_at desk p.1)) (sym subs)
    (first-seven (λ (s : Shape). rows_at s p.1) plan live page check carry inspect desk help (answers_to p.0 (label_of plan)) (answers_to p.0 (label_of live)) (answers_to p.0 (label_of page)) (answers_to p.0 (label_of check))
    (answers_to p.0 (label_of carry)) (answers_to p.0 (label_of inspect)) (answers_to p.0 (label_of desk)) (answers_to p.0 (label_of help)) is_help)

as-command : (found : Option (Text × List Row)) (plan live page check carry inspect desk : List Row) → OneOf found (codes "plan", plan) (codes "live", live) (codes "page", page) (codes "check", check) (codes "carry", carry) (codes "inspect", inspect) (codes "desk", desk) → IsEntered found
as-command found plan live page check carry inspect desk (inl e) = inl (inl (inl (inl (inl (Plan, (plan, e))))))
as-command found plan live page check carry inspect desk (inr (inl e)) = inl (inl (inl (inl (inl (Live, (live, e))))))
as-command found plan live page check carry inspect desk (inr (inr (inl e))) = inr (page, e)
as-command found plan live page check carry inspect desk (inr (inr (inr (inl e)))) = inl (inl (inl (inl (inr (check, e)))))
as-command found plan live page check carry inspect desk (inr (inr (inr (inr (inl e))))) = inl (inr (carry, e))
as-command found plan live page check carry inspect desk (inr (inr (inr (inr (inr (inl e)))))) = inl (inl (inr (inspect, e)))
as-command found plan live page check carry inspect desk (inr (inr (inr (inr (inr (inr e)))))) = inl (inl (inl (inr (desk, e))))

entered-one : (stop : Option (Text × List Text)) → NotAtHelp stop → is_some (entered (built mrp_command) stop) ≡ true → IsEntered (entered (built mrp_command) stop)
entered-one None apart some = absurd (true≢false (sym some))
entered-one (Some p) apart some = as-command (entered (built mrp_command) (Some p)) _ _ _ _ _ _ _ (of-eight (built mrp_command) _ _ _ _ _ _ _ _ p refl refl apart some)

-- words that are accepted enter one of the commands
pub enters-one : (words : List Text) → refusals words ≡ [] → IsEntered (subcommand_of mrp_command words)
enters-one words none =
    let top : Shape = (built mrp_command).top in
    let names : Names = names_of (built mrp_command) in
    let stop : Option (Text × List Text) = stop_after top.rules names words in
    let parts = level-parts top names nothing_held words (is_some (entered (built mrp_command) stop)) (entered_fault (built mrp_command) stop) none in
    let some = one-is-wanted (finished top.rules (walk top.rules names nothing_held words).held) (is_some (entered (built mrp_command) stop)) parts.1 in
    let apart : NotAtHelp stop = walk-goes-on top names (walk_from nothing_held) words refl tt parts.0 in
    entered-one stop apart some
