mod Summing
