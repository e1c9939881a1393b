-- The lines that say why an input is refused, as bytes. Numbers of jobs and stints are octal, as in an answer; the number of a line is decimal.
use Rattle.std.specs.Prelude.{List, [], ◌∷◌, ◌++◌, ℕ, Option, Some, None}
use Rattle.base_outcome.specs.Numbers.{refusal_number, verdict_number}
use Rattle.base_outcome.specs.declared.refusal.Refusal.TheVariants as Refusal
use Rattle.word_octal.specs.Write.{octal}
use Rattle.console_text.specs.Line.{decimal_number, line}
use Rattle.console_text.specs.Names.{job_is, stint_is, line_is, rule_is, package_is, field_is}
use Rattle.console_answer.specs.Text.{refused_text}
use Rattle.console_unreadable.specs.declared.rule.Rule.{Rule}
use Rattle.console_unreadable.specs.declared.rule.Rule.TheVariants.{Form, Limit, Order, Below, Past, LineFeed, Empty}
use Rattle.shared_fault.specs.declared.fault.Fault.{Fault}
use Rattle.shared_fault.specs.declared.fault.Fault.TheVariants.{NoJob, Job, Stint, PackageField, Packages, Fields}
use Rattle.shared_fault.specs.Fault.{VerdictAndFault}

-- form, limit, order, below, past, line-feed, empty
abbrev pub rule_name : Rule → List ℕ
rule_name Form = 102 ∷ 111 ∷ 114 ∷ 109 ∷ []
rule_name Limit = 108 ∷ 105 ∷ 109 ∷ 105 ∷ 116 ∷ []
rule_name Order = 111 ∷ 114 ∷ 100 ∷ 101 ∷ 114 ∷ []
rule_name Below = 98 ∷ 101 ∷ 108 ∷ 111 ∷ 119 ∷ []
rule_name Past = 112 ∷ 97 ∷ 115 ∷ 116 ∷ []
rule_name LineFeed = 108 ∷ 105 ∷ 110 ∷ 101 ∷ 45 ∷ 102 ∷ 101 ∷ 101 ∷ 100 ∷ []
rule_name Empty = 101 ∷ 109 ∷ 112 ∷ 116 ∷ 121 ∷ []

-- an unreadable line, by its number and the rule that it breaks
unfoldable pub unreadable_text : ℕ → Rule → List ℕ
unreadable_text n rule = refused_text (refusal_number Refusal.UnreadableLine) ++ (line line_is (decimal_number n) ++ line rule_is (rule_name rule))

-- none
abbrev pub none : List ℕ
none = 110 ∷ 111 ∷ 110 ∷ 101 ∷ []

-- who is at fault: a job, a stint, or two of the listed packages and fields, by the jobs that they belong to
abbrev pub fault_text : Option Fault → List ℕ
fault_text None = []
fault_text (Some NoJob) = line job_is none
fault_text (Some (Job i)) = line job_is (octal i)
fault_text (Some (Stint i)) = line stint_is (octal i)
fault_text (Some (PackageField i j)) = line package_is (octal i) ++ line field_is (octal j)
fault_text (Some (Packages i j)) = line package_is (octal i) ++ line package_is (octal j)
fault_text (Some (Fields i j)) = line field_is (octal i) ++ line field_is (octal j)

-- the verdict on a schedule and who is at fault; 0 where it is accepted
unfoldable pub finding_text : VerdictAndFault → List ℕ
finding_text f = refused_text (verdict_number f.verdict) ++ fault_text f.fault
