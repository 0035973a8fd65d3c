-- What an accepted sheet is.
use Rattle.module_info.specs.declared.judge.Accepted.{Accepted}
use Rattle.module_info.specs.code.AcceptedSheet.{AcceptedSheet}

abbrev pub accepted_as : Accepted → AcceptedSheet
accepted_as a = record { bytes = a.sheet.now; sheet = a.accepted.0; accepted = a.accepted.1 }
