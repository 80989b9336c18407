use Rattle.libt85.proofs.encoder.t85_encode_room.Goals as goal

pub returns-in-Err-clause-room : goal.returns-in-Err-clause-room
returns-in-Err-clause-room c = λ window image rows sent k. absurd (c.in-Err.ensures.none window image rows sent k)
