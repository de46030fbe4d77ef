-- Small reports, as bytes: the definitions compute.
use Rattle.std.proofs.Common.{◌≡◌, [], ◌∷◌, refl, codes}
use Rattle.std.specs.Fmt.{digits}
use Rattle.wire_types.specs.declared.CallEnd.TheVariants.{Waiting, Unreached}
use Rattle.wire_json.proofs.Rows.{row, done, ends}
use Rattle.wire_report.specs.Report.{report}

-- the get brought what call number 0 of process 0 put
all_done : report row ends
    ≡ codes "app:0 1 put PMIX_SUCCESS\napp:0 2 commit PMIX_SUCCESS\napp:1 1 get PMIX_SUCCESS v\"\\\nwaiting 0\n"
unfolding row done ends digits
all_done = refl

-- the get waits, and a call that nothing came to
still_waiting : report row (record { rows = (done ∷ (Unreached ∷ [])) ∷ ((Waiting ∷ []) ∷ ([] ∷ [])); waiting = 1 })
    ≡ codes "app:0 1 put PMIX_SUCCESS\napp:0 2 commit unreached\napp:1 1 get waiting\nwaiting 1\n"
unfolding row done digits
still_waiting = refl
