-- What a turn lock calls legal of a board's log is a legal log of the board, and its state is the one that the log leaves.
use Rattle.std.proofs.Common.{◌≡◌, ◌∙◌, [], ◌∷◌, ◌++◌, sym, ap, subst, append-nil}
use Rattle.mrp_turn.specs.Log.{IsLegal, IsReached, Leads, LeadsTo}
use Rattle.mrp_turn.proofs.Logs.{EachFollows-more, EachFollows-nil, InTurn, InTurn-from_Each, one_more}
use Rattle.mrp_item.specs.Inputs.{Inputs}
use Rattle.mrp_board.specs.Board.{BoardEntry, BoardLog, IsLegalBoard, MayFollowOnBoard}
use Rattle.mrp_board.specs.BoardState.{BoardState, state_of}
use Rattle.mrp_board.specs.Object.{Answers, Opens}
use Rattle.mrp_board.proofs.BoardStates.{reply-is, state-more, state-none}

-- a legal log, which leaves the state
pub record Leaves (s : Inputs) (log : BoardLog) (b : BoardState) : Type 0 where
  pub legal : IsLegalBoard s log
  pub left : b ≡ state_of s log

module _ (s : Inputs) where
  one-entry : (before : BoardLog) (e : BoardEntry) (b after : BoardState) → Leaves s before b → Answers s b e.who e.call e.reply after → Leaves s (before ++ e ∷ []) after
  one-entry before e b after h a =
      let answers : Answers s (state_of s before) e.who e.call e.reply after = subst (λ (x : BoardState). Answers s x e.who e.call e.reply after) h.left a in
      let is = reply-is s before h.legal e.who e.call ∙ answers.reply in
      record {
        legal = EachFollows-more (MayFollowOnBoard s) before e h.legal (answers.worker_is, is, answers.fits);
        left = answers.left ∙ sym (state-more s before e.who e.call e.reply is);
      }

  goes-on : (before log : BoardLog) (b t : BoardState) → Leaves s before b → Leads (Answers s) b log t → Leaves s (before ++ log) t
  goes-on before [] b t h same = subst (λ (x : BoardLog). Leaves s x t) (sym (append-nil before)) (subst (Leaves s before) same h)
  goes-on before (e ∷ log) b t h (u, answered, rest) =
      subst (λ (x : BoardLog). Leaves s x t) (sym (one_more before e log)) (goes-on (before ++ e ∷ []) log u t (one-entry before e b u h answered) rest)

  pub leaves : (log : BoardLog) (b : BoardState) → LeadsTo (Answers s) (Opens s) log b → Leaves s log b
  leaves log b (first, opens, leads) = goes-on [] log first b (record { legal = EachFollows-nil (MayFollowOnBoard s); left = opens ∙ sym (state-none s) }) leads

  pub logs-legal : (log : BoardLog) → IsLegal (Answers s) (Opens s) log → IsLegalBoard s log
  logs-legal log (b, leads) = (leaves log b leads).legal

  pub logs-left : (log : BoardLog) (b : BoardState) → LeadsTo (Answers s) (Opens s) log b → b ≡ state_of s log
  logs-left log b leads = (leaves log b leads).left

  leads-on : (before log : BoardLog) → IsLegalBoard s before → InTurn (MayFollowOnBoard s) before log → Leads (Answers s) (state_of s before) log (state_of s (before ++ log))
  leads-on before [] legal turn = ap (state_of s) (sym (append-nil before))
  leads-on before (e ∷ log) legal turn =
      let follows = turn.0 in (
        state_of s (before ++ e ∷ []),
        record {
          worker_is = follows.0;
          fits = follows.2;
          reply = sym (reply-is s before legal e.who e.call) ∙ follows.1;
          left = state-more s before e.who e.call e.reply follows.1;
        },
        subst (λ (x : BoardLog). Leads (Answers s) (state_of s (before ++ e ∷ [])) log (state_of s x)) (sym (one_more before e log))
            (leads-on (before ++ e ∷ []) log (EachFollows-more (MayFollowOnBoard s) before e legal follows) turn.1),
      )

  pub logs-lead : (log : BoardLog) → IsLegalBoard s log → LeadsTo (Answers s) (Opens s) log (state_of s log)
  logs-lead log legal = (state_of s [], state-none s, leads-on [] log (EachFollows-nil (MayFollowOnBoard s)) (InTurn-from_Each (MayFollowOnBoard s) [] log legal))

  -- every state that answered calls led to plans from the board's inputs
  pub reached-inputs : (b : BoardState) → IsReached (Answers s) (Opens s) b → b.inputs ≡ s
  reached-inputs b (log, leads) = ap (λ (x : BoardState). x.inputs) (logs-left log b leads)
