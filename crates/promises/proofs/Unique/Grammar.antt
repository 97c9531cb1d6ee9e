-- The public functions of `grammar`.
use mathlib.Core.Path.{refl}
use Rattle.grammar.proofs as grammar
use Rattle.promises.specs.Calls.{Unique}
use Rattle.promises.proofs.Unique.{same}

pub gives : Unique grammar.gives.Kinds.ps grammar.gives.Kinds.r grammar.gives.Reads.Pre grammar.gives.Reads.Post
gives κs a p z z' ws ws' e e' = (same e e', refl)

pub wants : Unique grammar.wants.Kinds.ps grammar.wants.Kinds.r grammar.wants.Reads.Pre grammar.wants.Reads.Post
wants κs a p z z' ws ws' e e' = (same e e', refl)

pub is_symbol : Unique grammar.is_symbol.Kinds.ps grammar.is_symbol.Kinds.r grammar.is_symbol.Reads.Pre grammar.is_symbol.Reads.Post
is_symbol κs a p z z' ws ws' e e' = (same e e', refl)

pub is_keyword : Unique grammar.is_keyword.Kinds.ps grammar.is_keyword.Kinds.r grammar.is_keyword.Reads.Pre grammar.is_keyword.Reads.Post
is_keyword κs a p z z' ws ws' e e' = (same e e', refl)

pub ends_line : Unique grammar.ends_line.Kinds.ps grammar.ends_line.Kinds.r grammar.ends_line.Reads.Pre grammar.ends_line.Reads.Post
ends_line κs a p z z' ws ws' e e' = (same e e', refl)

pub ends_statement : Unique grammar.ends_statement.Kinds.ps grammar.ends_statement.Kinds.r grammar.ends_statement.Reads.Pre grammar.ends_statement.Reads.Post
ends_statement κs a p z z' ws ws' e e' = (same e e', refl)

pub line_of : Unique grammar.line_of.Kinds.ps grammar.line_of.Kinds.r grammar.line_of.Reads.Pre grammar.line_of.Reads.Post
line_of κs a p z z' ws ws' e e' = (same e e', refl)

pub level_of : Unique grammar.level_of.Kinds.ps grammar.level_of.Kinds.r grammar.level_of.Reads.Pre grammar.level_of.Reads.Post
level_of κs a p z z' ws ws' e e' = (same e e', refl)

pub right_level : Unique grammar.right_level.Kinds.ps grammar.right_level.Kinds.r grammar.right_level.Reads.Pre grammar.right_level.Reads.Post
right_level κs a p z z' ws ws' e e' = (same e e', refl)

pub minus_stands : Unique grammar.minus_stands.Kinds.ps grammar.minus_stands.Kinds.r grammar.minus_stands.Reads.Pre grammar.minus_stands.Reads.Post
minus_stands κs a p z z' ws ws' e e' = (same e e', refl)

pub not_stands : Unique grammar.not_stands.Kinds.ps grammar.not_stands.Kinds.r grammar.not_stands.Reads.Pre grammar.not_stands.Reads.Post
not_stands κs a p z z' ws ws' e e' = (same e e', refl)

pub tight_operator : Unique grammar.tight_operator.Kinds.ps grammar.tight_operator.Kinds.r grammar.tight_operator.Reads.Pre grammar.tight_operator.Reads.Post
tight_operator κs a p z z' ws ws' e e' = (same e e', refl)
