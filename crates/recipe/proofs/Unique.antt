-- What an answer tells is enough to find the answer again. Assumes nothing.
use Rattle.std.specs.Prelude.{ℕ, Option, Some, None, Result, Ok, Err, if◌then◌else◌}
use mathlib.Core.Path.{◌≡◌, refl}
use lib.Dec.{eqb}
use Rattle.recipe.specs.declared.fault.Fault.{Fault}
use Rattle.recipe.specs.declared.fault.Fault.TheVariants.{BadParameter, NegativeSemiDiameter, Singular, Malformed}
use Rattle.recipe.specs.declared.record.ReadRecord.{ReadRecord}
use Rattle.recipe.specs.declared.scan.Checked.{Checked}
use Rattle.recipe.specs.declared.scan.Refused.{Refused}
use Rattle.recipe.specs.declared.source.Source.{Source}
use Rattle.recipe.specs.Fault.{fault_number}
use Rattle.recipe.specs.Record.{ReadRow, told_record}
use Rattle.recipe.specs.Scan.{Verdict, failed, told_check}
use Rattle.recipe.specs.Source.{SourceRow, told_source}
use Rattle.recipe.specs.Told.{ToldOneToOne}
use Rattle.surfaces.proofs.Unique.{back_again}

fault_of : ℕ → Fault
fault_of n =
    if eqb n 2 then BadParameter else
    if eqb n 3 then NegativeSemiDiameter else
    if eqb n 4 then Singular else Malformed

same_fault : (f : Fault) → fault_of (fault_number f) ≡ f
unfolding fault_of
same_fault BadParameter = refl
same_fault NegativeSemiDiameter = refl
same_fault Singular = refl
same_fault Malformed = refl

checked_of : Verdict → Result Checked Refused
checked_of v =
    if eqb v.number 1 then
    Ok (record { count = v.count; limits = v.limits; found = v.found; limit = v.limit; end = v.end }) else
    Err (record { fault = fault_of v.number; place = v.place })

same_refused : (f : Fault) (p : ℕ) → checked_of (failed (fault_number f) p) ≡ Err (record { fault = f; place = p })
unfolding checked_of fault_of
same_refused BadParameter p = refl
same_refused NegativeSemiDiameter p = refl
same_refused Singular p = refl
same_refused Malformed p = refl

same_checked : (r : Result Checked Refused) → checked_of (told_check r) ≡ r
unfolding checked_of
same_checked (Ok c) = refl
same_checked (Err e) = same_refused e.fault e.place

record_of : ReadRow → Option ReadRecord
record_of r = if eqb r.number 1 then Some (record { next = r.next; optic = r.optic }) else None

same_record : (o : Option ReadRecord) → record_of (told_record o) ≡ o
unfolding record_of
same_record (Some r) = refl
same_record None = refl

source_from : SourceRow → Option Source
source_from s = if eqb s.number 1 then Some (record { ray = s.ray; index = s.index }) else None

same_source : (o : Option Source) → source_from (told_source o) ≡ o
unfolding source_from
same_source (Some s) = refl
same_source None = refl

pub told_one_to_one : ToldOneToOne
told_one_to_one = record {
  fault = back_again fault_number fault_of same_fault;
  check = back_again told_check checked_of same_checked;
  reader = back_again told_record record_of same_record;
  source = back_again told_source source_from same_source;
}
