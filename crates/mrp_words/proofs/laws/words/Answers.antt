use Rattle.std.proofs.Common.{◌≡◌, ◌∙◌, ℕ, List, Some, None, ap, codes, refl, sym, arith}
use Rattle.std.specs.Str.Parse.{digits_value, without_leading_plus}
use Rattle.clap.specs.Walk.{Row, Text, one_of}
use Rattle.clap.proofs.OnLiterals.{clap_on_literals}
use Rattle.mrp_words.specs.Words.{IsRunIn}
use Rattle.mrp_words.proofs.laws.words.Goals as goal

-- if nothing is named, no run is
none-named : (rows : List Row) (number : ℕ) → one_of (codes "run") rows ≡ None → IsRunIn rows number → ⊥
none-named rows number none p =
    let some : None ≡ Some p.text = sym none ∙ p.given in
    cc

-- if 2 is named, the run is 2
two-named : (rows : List Row) (number : ℕ) → one_of (codes "run") rows ≡ Some (codes "2") → IsRunIn rows number → Some 2 ≡ Some number
two-named rows number two p =
    let same : Some (codes "2") ≡ Some p.text = sym two ∙ p.given in
    let text : codes "2" ≡ p.text = cc in
    ap (λ (n : ℕ). Some n) (ap (λ (t : Text). digits_value 10 (without_leading_plus t)) text ∙ sym p.value)

some-named : Some (codes "2") ≡ None → ⊥
some-named e = cc

pub returns-clause-plan : goal.returns-clause-plan
unfolding clap_on_literals
returns-clause-plan c = refl

pub returns-clause-workers : goal.returns-clause-workers
unfolding clap_on_literals
returns-clause-workers c = refl

pub returns-clause-joined : goal.returns-clause-joined
unfolding clap_on_literals
returns-clause-joined c = refl

pub returns-clause-folder : goal.returns-clause-folder
unfolding clap_on_literals
returns-clause-folder c = refl

pub returns-clause-named : goal.returns-clause-named
unfolding clap_on_literals
returns-clause-named c = refl

pub returns-clause-behind : goal.returns-clause-behind
unfolding clap_on_literals
returns-clause-behind c = refl

pub returns-clause-input : goal.returns-clause-input
unfolding clap_on_literals
returns-clause-input c = refl

pub returns-clause-one_worker : goal.returns-clause-one_worker
unfolding clap_on_literals
returns-clause-one_worker c = ((_, refl), record { name = _; rows = _; is = refl; text = codes "1"; given = refl; number = ((omega arith, (omega arith, tt)), omega arith, omega arith, omega arith); value = refl })

pub returns-clause-all_workers : goal.returns-clause-all_workers
unfolding clap_on_literals
returns-clause-all_workers c = (
  (_, refl),
  record {
    name = _;
    rows = _;
    is = refl;
    text = codes "64";
    given = refl;
    number = ((omega arith, (omega arith, (omega arith, tt))), omega arith, omega arith, omega arith);
    value = refl;
  },
)

pub returns-clause-two_workers : goal.returns-clause-two_workers
unfolding clap_on_literals
returns-clause-two_workers c = ((_, refl), record { name = _; rows = _; is = refl; text = codes "2"; given = refl; number = ((omega arith, (omega arith, tt)), omega arith, omega arith, omega arith); value = refl })

pub returns-clause-help : goal.returns-clause-help
unfolding clap_on_literals
returns-clause-help c = refl

pub returns-clause-short : goal.returns-clause-short
unfolding clap_on_literals
returns-clause-short c = refl

pub returns-clause-help_of_plan : goal.returns-clause-help_of_plan
unfolding clap_on_literals
returns-clause-help_of_plan c = refl

pub returns-clause-none : goal.returns-clause-none
unfolding clap_on_literals
returns-clause-none c = refl

pub returns-clause-unknown : goal.returns-clause-unknown
unfolding clap_on_literals
returns-clause-unknown c = refl

pub returns-clause-no_worker : goal.returns-clause-no_worker
unfolding clap_on_literals
returns-clause-no_worker c = refl

pub returns-clause-too_many : goal.returns-clause-too_many
unfolding clap_on_literals
returns-clause-too_many c = refl

pub returns-clause-two_folders : goal.returns-clause-two_folders
unfolding clap_on_literals
returns-clause-two_folders c = refl

pub returns-clause-no_number : goal.returns-clause-no_number
unfolding clap_on_literals
returns-clause-no_number c = refl

pub returns-clause-live : goal.returns-clause-live
unfolding clap_on_literals
returns-clause-live c = refl

pub returns-clause-live_folder : goal.returns-clause-live_folder
unfolding clap_on_literals
returns-clause-live_folder c = refl

pub returns-clause-of_live : goal.returns-clause-of_live
unfolding clap_on_literals
returns-clause-of_live c = refl

pub returns-clause-help_of_live : goal.returns-clause-help_of_live
unfolding clap_on_literals
returns-clause-help_of_live c = refl

pub returns-clause-both : goal.returns-clause-both
unfolding clap_on_literals
returns-clause-both c = refl

pub returns-clause-no_live_worker : goal.returns-clause-no_live_worker
unfolding clap_on_literals
returns-clause-no_live_worker c = refl

pub returns-clause-live_day : goal.returns-clause-live_day
unfolding clap_on_literals
returns-clause-live_day c = ((_, refl), record { name = _; rows = _; is = refl; text = codes "1"; given = refl; number = ((omega arith, (omega arith, tt)), omega arith, omega arith, omega arith); value = refl })

pub returns-clause-live_workers : goal.returns-clause-live_workers
unfolding clap_on_literals
returns-clause-live_workers c = ((_, refl), record { name = _; rows = _; is = refl; text = codes "8"; given = refl; number = ((omega arith, (omega arith, tt)), omega arith, omega arith, omega arith); value = refl })

pub returns-clause-page : goal.returns-clause-page
unfolding clap_on_literals
returns-clause-page c = refl

pub returns-clause-page_of_items : goal.returns-clause-page_of_items
unfolding clap_on_literals
returns-clause-page_of_items c = refl

pub returns-clause-last_page : goal.returns-clause-last_page
unfolding clap_on_literals
returns-clause-last_page c = (_, refl, record { named = λ number p. absurd (none-named _ number refl p); last = λ none. refl; of_items = refl; titled = refl; of_tables = refl })

pub returns-clause-dated_page : goal.returns-clause-dated_page
unfolding clap_on_literals
returns-clause-dated_page c = (_, refl, record { named = λ number p. absurd (none-named _ number refl p); last = λ none. refl; of_items = refl; titled = refl; of_tables = refl })

pub returns-clause-asked_page : goal.returns-clause-asked_page
unfolding clap_on_literals
returns-clause-asked_page c = (_, refl, record { named = λ number p. two-named _ number refl p; last = λ none. absurd (some-named none); of_items = refl; titled = refl; of_tables = refl })

pub returns-clause-help_of_page : goal.returns-clause-help_of_page
unfolding clap_on_literals
returns-clause-help_of_page c = refl

pub returns-clause-no_run : goal.returns-clause-no_run
unfolding clap_on_literals
returns-clause-no_run c = refl

pub returns-clause-page_of_folder : goal.returns-clause-page_of_folder
unfolding clap_on_literals
returns-clause-page_of_folder c = refl

pub returns-clause-check : goal.returns-clause-check
unfolding clap_on_literals
returns-clause-check c = refl

pub returns-clause-checked : goal.returns-clause-checked
unfolding clap_on_literals
returns-clause-checked c = ((_, refl), refl)

pub returns-clause-help_of_check : goal.returns-clause-help_of_check
unfolding clap_on_literals
returns-clause-help_of_check c = refl

pub returns-clause-no_folder : goal.returns-clause-no_folder
unfolding clap_on_literals
returns-clause-no_folder c = refl

pub returns-clause-check_by_workers : goal.returns-clause-check_by_workers
unfolding clap_on_literals
returns-clause-check_by_workers c = refl

pub returns-clause-version : goal.returns-clause-version
unfolding clap_on_literals
returns-clause-version c = refl

pub returns-clause-short_version : goal.returns-clause-short_version
unfolding clap_on_literals
returns-clause-short_version c = refl

pub returns-clause-version_of_plan : goal.returns-clause-version_of_plan
unfolding clap_on_literals
returns-clause-version_of_plan c = refl

pub returns-clause-carry : goal.returns-clause-carry
unfolding clap_on_literals
returns-clause-carry c = refl

pub returns-clause-carried_numbers : goal.returns-clause-carried_numbers
unfolding clap_on_literals
returns-clause-carried_numbers c = refl

false-is-true : Some (codes "false") ≡ Some (codes "true") → ⊥
false-is-true e = cc

true-is-false : Some (codes "true") ≡ Some (codes "false") → ⊥
true-is-false e = cc

true-is-none : Some (codes "true") ≡ None → ⊥
true-is-none e = cc

pub returns-clause-carried : goal.returns-clause-carried
unfolding clap_on_literals
returns-clause-carried c = (_, refl, record { of_folder = refl; from = refl; flagged = λ is. absurd (false-is-true is); bare = λ is. refl; absent = λ is. refl })

pub returns-clause-listed : goal.returns-clause-listed
unfolding clap_on_literals
returns-clause-listed c = (_, refl, record { of_folder = refl; from = refl; flagged = λ is. refl; bare = λ is. absurd (true-is-false is); absent = λ is. absurd (true-is-none is) })

pub returns-clause-help_of_carry : goal.returns-clause-help_of_carry
unfolding clap_on_literals
returns-clause-help_of_carry c = refl

pub returns-clause-no_start : goal.returns-clause-no_start
unfolding clap_on_literals
returns-clause-no_start c = refl

pub returns-clause-no_carried_folder : goal.returns-clause-no_carried_folder
unfolding clap_on_literals
returns-clause-no_carried_folder c = refl

pub returns-clause-two_starts : goal.returns-clause-two_starts
unfolding clap_on_literals
returns-clause-two_starts c = refl

pub returns-clause-two_flags : goal.returns-clause-two_flags
unfolding clap_on_literals
returns-clause-two_flags c = refl

pub returns-clause-inspect : goal.returns-clause-inspect
unfolding clap_on_literals
returns-clause-inspect c = refl

pub returns-clause-inspected : goal.returns-clause-inspected
unfolding clap_on_literals
returns-clause-inspected c = ((_, refl), refl)

pub returns-clause-help_of_inspect : goal.returns-clause-help_of_inspect
unfolding clap_on_literals
returns-clause-help_of_inspect c = refl

pub returns-clause-no_inspected_folder : goal.returns-clause-no_inspected_folder
unfolding clap_on_literals
returns-clause-no_inspected_folder c = refl

pub returns-clause-inspected_by_word : goal.returns-clause-inspected_by_word
unfolding clap_on_literals
returns-clause-inspected_by_word c = refl

pub returns-clause-desk : goal.returns-clause-desk
unfolding clap_on_literals
returns-clause-desk c = refl

pub returns-clause-help_of_desk : goal.returns-clause-help_of_desk
unfolding clap_on_literals
returns-clause-help_of_desk c = refl

pub returns-clause-no_desk_folder : goal.returns-clause-no_desk_folder
unfolding clap_on_literals
returns-clause-no_desk_folder c = refl

pub returns-clause-no_desk_worker : goal.returns-clause-no_desk_worker
unfolding clap_on_literals
returns-clause-no_desk_worker c = refl

pub returns-clause-open_desk : goal.returns-clause-open_desk
unfolding clap_on_literals
returns-clause-open_desk c = ((_, refl), refl, record { name = _; rows = _; is = refl; text = codes "1"; given = refl; number = ((omega arith, (omega arith, tt)), omega arith, omega arith, omega arith); value = refl })

pub returns-clause-desk_workers : goal.returns-clause-desk_workers
unfolding clap_on_literals
returns-clause-desk_workers c = ((_, refl), refl, record { name = _; rows = _; is = refl; text = codes "8"; given = refl; number = ((omega arith, (omega arith, tt)), omega arith, omega arith, omega arith); value = refl })
