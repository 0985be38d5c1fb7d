-- The codes of the table of records (document 01, 'The interval sheet').
use Rattle.std.specs.Prelude.{ℕ}
use Rattle.records.specs.declared.codes.Rto.{Rto}
use Rattle.records.specs.declared.codes.Rto.TheVariants.{Nyiso, Pjm}
use Rattle.records.specs.declared.codes.Class.{Class}
use Rattle.records.specs.declared.codes.Class.TheVariants.{Common, NonCommon}
use Rattle.records.specs.declared.codes.Subject.{Subject}
use Rattle.records.specs.declared.codes.Subject.TheVariants as subject

-- the Monitoring RTO
abbrev pub nyiso : ℕ
nyiso = 1

abbrev pub pjm : ℕ
pjm = 2

abbrev pub rto_code : Rto → ℕ
rto_code Nyiso = nyiso
rto_code Pjm = pjm

-- a point's type, a PAR's class
abbrev pub common : ℕ
common = 1

abbrev pub noncommon : ℕ
noncommon = 2

abbrev pub class_code : Class → ℕ
class_code Common = common
class_code NonCommon = noncommon

-- a factor's subject
abbrev pub unit_subject : ℕ
unit_subject = 1

abbrev pub zone_subject : ℕ
zone_subject = 2

abbrev pub point_subject : ℕ
point_subject = 3

abbrev pub par_subject : ℕ
par_subject = 4

abbrev pub subject_code : Subject → ℕ
subject_code subject.Unit = unit_subject
subject_code subject.Zone = zone_subject
subject_code subject.Point = point_subject
subject_code subject.Par = par_subject
