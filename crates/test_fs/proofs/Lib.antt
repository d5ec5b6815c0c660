mod SeatLaws
