-- The plan of a desk's last run is of its shop.
use Rattle.std.proofs.Common.{◌≡◌, ◌∙◌, ℕ, zero, suc, ◌-◌, List, [], ◌∷◌, length, Some, Ok, Err, ap, refl}
use Rattle.std.specs.Prelude.{All, slice_get}
use Rattle.std.specs.List.{AllZip}
use Rattle.std.proofs.lemmas.List.Elements.{All-append, All-cons, All-head, All-nil, All-tail}
use Rattle.mrp_tables.specs.Tables.{Tables}
use Rattle.mrp_book.specs.declared.reply.Reply.{Reply}
use Rattle.mrp_book.specs.declared.reply.Reply.TheVariants as reply
use Rattle.mrp_book.specs.Standing.{History}
use Rattle.mrp_item.specs.Inputs.{Inputs, inputs_of}
use Rattle.mrp_engine.specs.day.Day.{planned_from, runs_of}
use Rattle.mrp_engine.specs.day.Planned.{PlansRun}
use Rattle.mrp_engine.specs.day.RunPlans.{IsOfShop}
use Rattle.mrp_engine.specs.live.Runs.{RunResult, last_plan, plan_in_run}

abbrev pub AreOf : Tables → List Inputs → Type 0
AreOf t runs = All (λ s. s.tables ≡ t) runs

of-reply : (t : Tables) (r : Reply) → AreOf t (planned_from t r)
of-reply t (reply.Taken snapshot) = All-cons (λ s. s.tables ≡ t) (inputs_of t snapshot) [] refl (All-nil (λ s. s.tables ≡ t))
of-reply t (reply.Booked n) = All-nil (λ s. s.tables ≡ t)
of-reply t (reply.Short a) = All-nil (λ s. s.tables ≡ t)
of-reply t reply.Cancelled = All-nil (λ s. s.tables ≡ t)
of-reply t reply.NotStanding = All-nil (λ s. s.tables ≡ t)
of-reply t reply.NotYours = All-nil (λ s. s.tables ≡ t)
of-reply t (reply.Available a) = All-nil (λ s. s.tables ≡ t)
of-reply t (reply.Week w) = All-nil (λ s. s.tables ≡ t)
of-reply t reply.NoWeek = All-nil (λ s. s.tables ≡ t)
of-reply t (reply.Front n) = All-nil (λ s. s.tables ≡ t)

-- the runs of a history are of its shop
pub runs-of-shop : (t : Tables) (h : History) → AreOf t (runs_of t h)
runs-of-shop t [] = All-nil (λ s. s.tables ≡ t)
runs-of-shop t (e ∷ h) = All-append (λ s. s.tables ≡ t) (planned_from t e.reply) (runs_of t h) (of-reply t e.reply) (runs-of-shop t h)

-- the plan of one of them is of the shop
one-of-shop : (t : Tables) (s : Inputs) (r : RunResult) → s.tables ≡ t → PlansRun s r → IsOfShop t (plan_in_run (Some r))
one-of-shop t s (Ok plan) of is = ap (λ (x : Inputs). x.tables) is.0 ∙ of
one-of-shop t s (Err fault) of is = tt

plan-at : (t : Tables) (all : List Inputs) (runs : List RunResult) (k : ℕ) → AreOf t all → AllZip PlansRun all runs → IsOfShop t (plan_in_run (slice_get runs k))
plan-at t all [] k of zip = tt
plan-at t [] (r ∷ runs) k of zip = absurd zip
plan-at t (s ∷ all) (r ∷ runs) zero of zip = one-of-shop t s r (All-head (λ x. x.tables ≡ t) s all of) zip.0
plan-at t (s ∷ all) (r ∷ runs) (suc k) of zip = plan-at t all runs k (All-tail (λ x. x.tables ≡ t) s all of) zip.1

pub last-run-of-shop : (t : Tables) (h : History) (runs : List RunResult) → AllZip PlansRun (runs_of t h) runs → IsOfShop t (last_plan runs)
last-run-of-shop t h runs zip = plan-at t (runs_of t h) runs (length runs - 1) (runs-of-shop t h) zip
