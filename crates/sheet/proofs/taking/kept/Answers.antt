-- One byte 13 at the end is stripped.
use Rattle.std.proofs.Common.{[], ◌∷◌, ap, ◌∙◌, Bor, List, ℕ}
use Rattle.std.proofs.lemmas.Bool.Decides.{Decides-eqb}
use Rattle.std.proofs.lemmas.Slice.Eq.{strip_suffix_is}
use Rattle.sheet.proofs.Kept.{kept_stripped}
use Rattle.sheet.proofs.taking.kept.Goals as goal

pub returns : goal.returns
returns c =
    ap (λ (x : Bor (List ℕ)). x.now) c.unwrap_or.ensures
    ∙ kept_stripped c.args.line _ (strip_suffix_is Decides-eqb _ (13 ∷ []) _ c.strip_suffix.ensures.cases)
