use Rattle.ic_tree.proofs.StoredLemmas.{stored_decides, tree_unclosed}
use Rattle.ic_tree.proofs.law.law_stored_formula.Goals as goal

pub returns : goal.returns
returns c = record {
  decides = λ n book scope f g notations valid kept other. stored_decides n notations book valid scope f g kept other;
  begins = λ n book scope t rest notations valid kept same. tree_unclosed n notations book valid scope t kept rest same;
}
