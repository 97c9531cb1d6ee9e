-- Bridge: by how a statement is led, whether it jumps on. The contracts of functions inside this crate cite it; no promise of `bound_of` rests
-- on it.
use Rattle.words.specs.declared.places.LineNumber.{LineNumber}
use Rattle.std.specs.Prelude.{Bool, true, false, ℕ, ltb, None, Option, Some}
use Rattle.words.specs.declared.symbols.Scanned.{Scanned}
use Rattle.words.specs.declared.symbols.Word.{Word}
use Rattle.words.specs.declared.symbols.Word.TheVariants.{Let, Print, If, Then, Else, Goto, Gosub, Return, For, To, Step, Next, Line, Input, End, Stop, Rem, While, Wend, Data, Read, Restore}
use Rattle.grammar.specs.bridge.Answers.{line_of}
use Rattle.statements.specs.declared.leading.Lead.{Lead}

-- by the line that is named
abbrev pub goes_on : ℕ → Option LineNumber → Bool
goes_on n None = true
goes_on n (Some l) = ltb n l.0

-- by the word, and the token after it
abbrev pub word_leads_on : ℕ → Word → Scanned → Bool
word_leads_on n Let t = true
word_leads_on n Print t = true
word_leads_on n If t = true
word_leads_on n Then t = true
word_leads_on n Else t = true
word_leads_on n Goto t = goes_on n (line_of t.token)
word_leads_on n Gosub t = false
word_leads_on n Return t = false
word_leads_on n For t = false
word_leads_on n To t = true
word_leads_on n Step t = true
word_leads_on n Next t = false
word_leads_on n Line t = true
word_leads_on n Input t = true
word_leads_on n End t = true
word_leads_on n Stop t = true
word_leads_on n Rem t = true
word_leads_on n While t = false
word_leads_on n Wend t = false
word_leads_on n Data t = true
word_leads_on n Read t = true
word_leads_on n Restore t = true

abbrev pub leads_on : ℕ → Option Lead → Bool
leads_on n (Some lead) = word_leads_on n lead.word lead.ahead
leads_on n None = true
