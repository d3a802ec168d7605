-- How a reading ended, in lines: the reconnection time, and the fault if there is one.
use Rattle.std.specs.Prelude.{◌≡◌, ℕ, List, ◌++◌, Some, None, codes, decimal, Option, refl}
use Rattle.std.specs.Fmt.{digits}
use Rattle.fields.specs.Cause.{field}
use Rattle.lines.specs.Reader.{Fault}
use Rattle.lines.specs.Print.{fault_text}

abbrev pub retry_line : ℕ → List ℕ
retry_line time = codes "retry " ++ (decimal time ++ codes "\n")

abbrev pub fault_line : Fault → List ℕ
fault_line f = fault_text f ++ codes "\n"

abbrev pub end_lines : ℕ → Option Fault → List ℕ
end_lines time None = retry_line time
end_lines time (Some f) = retry_line time ++ fault_line f

example : end_lines 3000 None ≡ codes "retry 3000\n"
unfolding digits
example = refl

example_fault : end_lines 3000 (Some (record { cause = record { number = 11; layer = field }; line = 3; byte = 640 })) ≡ codes "retry 3000\nfault 11 field line 3 byte 640\n"
unfolding digits
example_fault = refl
