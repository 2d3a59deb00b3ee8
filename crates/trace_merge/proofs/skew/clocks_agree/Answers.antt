use Rattle.std.proofs.Common.{◌≡◌, ℕ, ◌+◌, List, Option, Some, None, reverse, sym, ◌∙◌, ap, subst}
use Rattle.txn_data.specs.declared.entry.Entry.{Entry}
use Rattle.txn_types.specs.History.{History, history_of}
use Rattle.trace_merge.specs.Clocks.{ClocksAgree, first_above}
use Rattle.trace_merge.specs.Seen.{JudgedFirst}
use Rattle.trace_merge.specs.declared.failed_read.FailedRead.{FailedRead}
use Rattle.trace_merge.proofs.Agreeing.{agree_none, agree_never, agree_some}
use Rattle.trace_merge.proofs.skew.clocks_agree.Goals as goal

judged_is : (skew : ℕ) (h g : History) (o p : Option FailedRead) → g ≡ h → o ≡ p → JudgedFirst skew g o → JudgedFirst skew h p
judged_is skew h g o p same is judged = subst (λ (q : Option FailedRead). JudgedFirst skew h q) is (subst (λ (k : History). JudgedFirst skew k o) same judged)

pub returns-in_err-read : goal.returns-in_err-read
returns-in_err-read c = λ config run.
    let h = history_of c.args.trace.now in
    let same : reverse c.items-entries.result.now ≡ h = ap (λ (es : List Entry). reverse es) c.items-entries.ensures in
    let judged = judged_is c.args.skew_us h _ c.first_failed.result None same c.in_err-read.was c.first_failed.ensures in
    subst (λ (o : Option (ℕ × ℕ)). ClocksAgree config c.args.skew_us h o) (sym c.from_residual.ensures) (agree_none c.origins_show.ensures config c.args.skew_us h run judged)

pub returns-in_err-shown : goal.returns-in_err-shown
returns-in_err-shown c = λ config run.
    let h = history_of c.args.trace.now in
    let same : reverse c.items-entries.result.now ≡ h = ap (λ (es : List Entry). reverse es) c.items-entries.ensures in
    let f = c.in_ok-read.read in
    let judged = judged_is c.args.skew_us h _ c.first_failed.result (Some f) same c.in_ok-read.was c.first_failed.ensures in
    let none : first_above (f.own + c.args.skew_us) h ≡ None = ap (λ (k : History). first_above (f.own + c.args.skew_us) k) (sym same) ∙ (sym c.place_above.ensures ∙ c.in_err-shown.was) in
    absurd (agree_never c.origins_show.ensures config c.args.skew_us h f run judged none)

pub returns : goal.returns
returns c = λ config run.
    let h = history_of c.args.trace.now in
    let same : reverse c.items-entries.result.now ≡ h = ap (λ (es : List Entry). reverse es) c.items-entries.ensures in
    let f = c.in_ok-read.read in
    let judged = judged_is c.args.skew_us h _ c.first_failed.result (Some f) same c.in_ok-read.was c.first_failed.ensures in
    let some : first_above (f.own + c.args.skew_us) h ≡ Some c.in_ok-shown.shown = ap (λ (k : History). first_above (f.own + c.args.skew_us) k) (sym same) ∙ (sym c.place_above.ensures ∙ c.in_ok-shown.was) in
    agree_some c.origins_show.ensures config c.args.skew_us h f c.in_ok-shown.shown run judged some
